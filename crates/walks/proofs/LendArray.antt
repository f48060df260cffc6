-- A local array of plain data as what a `&mut [T; n]` or a `&[T]` borrows, and its cell or its room again.
--     into-memory      the array's cell  ⊢  the array in memory, which is what `Denote/Lend.antt`'s `lends_ref` lends
--     out-of-memory    the array in memory  ⊢  its cell at some machine value, with what the array owns there
--     into-parts       the array's cell  ⊢  its elements in memory, which is what `Denote/Lend.antt`'s `lends_shr_slice` lends
--     back-room        the elements in memory  ⊢  room for the array, which is what freeing the local takes
use mathlib.Core.Path.{refl}
use mathlib.Core.List.{List, [], ◌∷◌}
use Prim.Native.Nat.{ℕ}
use seplogic.Ra.Ura.{Ura}
use base.Fraction.{full_share}
use mir.Syntax.{Ty, ty_array}
use mir.Val.{Val}
use base.Logic.{SProp, ent, sep, ex}
use base.Fml.{fsep, fat, froom}
use types.Logic.{Logic, sem}
use types.Kit.{‵, ◌⊛◌, some, ◌$◌, ◌∵◌, !, qed, move, keep, use1, rewrite, split, pick, fsplit, fjoin, fpick, fpack, show, done}
use types.Share.{arr_parts}
use denote.Steps.{owned, peeks}
use denote.Array.{Array, array_val, Array-Makes}
use denote.Memory.{cell_at, lone, mem, shares, part_of}
use denote.RattleType.{RattleType}
use denote.Laws.{Is, Makes, shows}
use denote.ArrayMemory.{Single, Array-apart, Array-whole}

module _ {M : Type 1} {𝓤 : Ura M} (𝓛 : Logic 𝓤) (R : RattleType) (n : ℕ) (ys : List R.Denot) (b o : ℕ) where
  open 𝓛 use {H}

  abbrev τ : Ty
  τ = ty_array (lone R.mir) n

  abbrev T : RattleType
  T = Array R n

  pub into_memory : Makes 𝓛 R (Is R) → (v : Val) → Is T ys (v ∷ []) → ent 𝓤 (H.at full_share τ b o v) (sem 𝓛 ((mem T).own_at ys b o))
  unfolding part_of
  into_memory mk v is =
      qed 𝓛 (‵ (fat full_share τ b o v) ∷ []) ∵ use1 𝓛 (‵ (cell_at full_share T.mir (v ∷ []) b o)) (𝓛.laws.at_raw full_share τ b o v) $
      owned ! T (Is T) (Array-Makes 𝓛 R mk n) ys (v ∷ []) is $ move ! (1 ∷ 0 ∷ []) $ fjoin ! $
      fpack ! (List Val) (λ us. fsep (cell_at full_share T.mir us b o) (T.own_val ys us)) (v ∷ []) $ done !

  abbrev pub Cell : Val → SProp 𝓤
  Cell v = sep 𝓤 (H.at full_share τ b o v) (sem 𝓛 (T.own_val ys (v ∷ [])))

  pub out_of_memory : ent 𝓤 (sem 𝓛 ((mem T).own_at ys b o)) (ex 𝓤 Cell)
  unfolding part_of
  out_of_memory =
      qed 𝓛 (‵ ((mem T).own_at ys b o) ∷ []) ∵ fpick ! (λ vs. fsplit ! $ move ! (1 ∷ []) $ peeks ! T (Is T) (shows 𝓛 T) ys vs (λ is.
      rewrite ! 0 (λ (us : List Val). ‵ (T.own_val ys us)) is.1.0.0 refl $ rewrite ! 1 (λ (us : List Val). ‵ (cell_at full_share T.mir us b o)) is.1.0.0 refl $ move ! (1 ∷ []) $
      use1 𝓛 (‵ (fat full_share τ b o (array_val is.0))) (𝓛.laws.raw_at full_share τ b o (array_val is.0)) $ show ! Cell (array_val is.0) $ done !))

  pub into_parts : Single R.mir → Makes 𝓛 R (Is R) → (v : Val) → Is T ys (v ∷ []) → ent 𝓤 (H.at full_share τ b o v) (sem 𝓛 ((arr_parts (shares R) n).part full_share ys b o))
  into_parts one mk v is =
      qed 𝓛 (‵ (fat full_share τ b o v) ∷ []) ∵ use1 𝓛 (‵ ((mem T).own_at ys b o)) (into_memory mk v is) $
      use1 𝓛 (‵ ((arr_parts (shares R) n).part full_share ys b o)) (Array-apart 𝓛 R full_share one n ys b o) $ done !

  pub back_room : ent 𝓤 (sem 𝓛 ((arr_parts (shares R) n).part full_share ys b o)) (H.room τ b o)
  back_room =
      qed 𝓛 (‵ ((arr_parts (shares R) n).part full_share ys b o) ∷ []) ∵ use1 𝓛 (‵ ((mem T).own_at ys b o)) (Array-whole 𝓛 R full_share n ys b o) $
      use1 𝓛 (some (λ (v : Val). ‵ (fat full_share τ b o v) ⊛ ‵ (T.own_val ys (v ∷ [])))) out_of_memory $ pick ! (λ v. split ! $ keep ! (0 ∷ []) $
      use1 𝓛 (‵ (froom τ b o)) (𝓛.laws.at_room τ b o v) $ done !)
