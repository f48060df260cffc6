-- What demand 3 settles: an element that is not refused has one result.
use mathlib.Core.Path.{◌≡◌, sym, ap, subst, ◌∙◌}
use mathlib.Core.Bool.{Bool, true, false}
use Prim.Native.Nat.{ℕ, suc, ◌+◌, ◌-◌, ◌*◌, ◌^◌, ◌≤◌, ◌<◌}
use native.Mathlib.Nat.{mul-le-mul_right, suc-mul, add-mul}
use native.Mathlib.Omega.{arith}
use lib.IntN.{ℤ, pos, ◌+ℤ◌, ◌*ℤ◌}
use lib.Pow.{pow_pos}
use lib.Signed.{◌≤ℤ◌, ◌<ℤ◌}
use Rattle.grid.proofs.Int.{up, dn, ints, split, →eq, up_neg, dn_neg}
use Rattle.grid.proofs.Order.{unique}
use Rattle.grid.proofs.Neighbours.{cut, pow_twice_pred}
use Rattle.patterns.specs.Kind.{Kind, integer, binary, grid_of, high_int, lowest, highest, InRange, WellFormed}
use Rattle.patterns.specs.Value.{Value, num}
use Rattle.codes.specs.declared.OutOfRangeMode.{OutOfRangeMode}
use Rattle.codes.specs.declared.OutOfRangeMode.TheVariants.{None, Clamp, Wrap}
use Rattle.cast_spec.specs.Element.{Settings}
use Rattle.cast_spec.specs.Chunk.{Inputs, call_of, answer_of, destination_of, result_at}
use Rattle.cast_spec.specs.Demand3.{Kept, Congruent, Handled, Rounded, Taken, Demand3}
use Rattle.patterns.proofs.Integers.{add_parts, up_times, dn_times, low_in}
use Rattle.patterns.proofs.AnyKind.{low_zero, high_zero, lowest_in, unit_pos}
use Rattle.cast_spec.proofs.Order.{below_zero, above_zero, refused}
use Rattle.cast_spec.proofs.Demand3.{good, to_is, demand3}
use Rattle.answers.specs.Outcome.{Answer}

-- ---- "that target's one number congruent to the pick modulo 2^N"
module _ (M : ℕ) (y z z' t t' : ℤ) (p : y ≡ z +ℤ t *ℤ pos M) (q : y ≡ z' +ℤ t' *ℤ pos M) where
  parts : up z + dn z' + (up t + dn t') * M ≡ up z' + dn z + (up t' + dn t) * M
  parts = omega (arith, ap up p, ap dn p, ap up q, ap dn q, add_parts z (t *ℤ pos M), add_parts z' (t' *ℤ pos M), up_times t M, dn_times t M, up_times t' M, dn_times t' M, add-mul (up t) (dn t') M, add-mul (up t') (dn t) M)

  -- two that lie less than M apart are one
  one : up z + dn z' < up z' + dn z + M → up z' + dn z < up z + dn z' + M → z ≡ z'
  one a b = →eq z z' (omega (arith, even))
    where
      step : (i j : ℕ) → i < j → i * M + M ≤ j * M
      step i j h = subst (λ (x : ℕ). x ≤ j * M) (suc-mul i M) (mul-le-mul_right M h)

      even : up z + dn z' ≡ up z' + dn z
      even = cut (up t + dn t') (up t' + dn t)
          (λ h. absurd (omega (arith, parts, step (up t + dn t') (up t' + dn t) h)))
          (λ h. cut (up t' + dn t) (up t + dn t')
          (λ l. absurd (omega (arith, parts, step (up t' + dn t) (up t + dn t') l)))
          (λ l. let e : up t + dn t' ≡ up t' + dn t = omega arith in omega (arith, parts, ap (λ (x : ℕ). x * M) e)))

-- an integer kind's ends lie less than 2 ^ n apart
spread : (s : Bool) (n u : ℕ) → 0 < n → 0 < u → (z z' : ℤ) → low_in s n u ≤ℤ z → z' ≤ℤ pos (high_int s n * u) → up z' + dn z < up z + dn z' + 2 ^ n * u
spread true n u some unit z z' l h =
    let H = 2 ^ (n - 1) in
    let a : H * u ≡ (H - 1) * u + u = ap (λ (x : ℕ). x * u) (back H (pow_pos (n - 1))) ∙ suc-mul (H - 1) u in
    let b : 2 ^ n * u ≡ H * u + H * u = ap (λ (x : ℕ). x * u) (pow_twice_pred n some ∙ twice H) ∙ add-mul H H u in
    omega (ints, up_neg (pos (H * u)), dn_neg (pos (H * u)))
  where
    back : (H : ℕ) → 0 < H → H ≡ suc (H - 1)
    back H h = omega arith

    twice : (H : ℕ) → 2 * H ≡ H + H
    twice H = omega arith
spread false n u some unit z z' l h =
    let N = 2 ^ n in
    let a : N * u ≡ (N - 1) * u + u = ap (λ (x : ℕ). x * u) (back N (pow_pos n)) ∙ suc-mul (N - 1) u in
    omega ints
  where
    back : (H : ℕ) → 0 < H → H ≡ suc (H - 1)
    back H h = omega arith

pub one_number : (s : Bool) (n : ℕ) (v v' : Value) (y : ℤ) → 0 < n → Congruent (integer s n) v y → Congruent (integer s n) v' y → v ≡ v'
unfolding highest
one_number s n v v' y ok C D =
    C.value
    ∙ ap num (one (2 ^ n * 2 ^ 1074) y C.z D.z C.turns D.turns C.apart D.apart
    (spread s n (2 ^ 1074) ok unit_pos D.z C.z (subst (λ (z : ℤ). z ≤ℤ D.z) (lowest_in s n) D.in_range.0) C.in_range.1)
    (spread s n (2 ^ 1074) ok unit_pos C.z D.z (subst (λ (z : ℤ). z ≤ℤ C.z) (lowest_in s n) C.in_range.0) D.in_range.1))
    ∙ sym D.value

-- ---- two accounts of one element that is not refused give it one result
outside : (k : Kind) (y : ℤ) {C : Type 0} → (InRange k y → ⊥) → (y <ℤ lowest k → C) → (highest k <ℤ y → C) → C
outside k y n f g = split y (lowest k) f (λ (l : lowest k ≤ℤ y). split (highest k) y g (λ (m : y ≤ℤ highest k). absurd (n (l, m))))

handled_one : (S : Settings) (k : Kind) (m : OutOfRangeMode) (r r' : Answer) (v v' : Value) (i : ℕ) (x y : ℤ) → WellFormed k → Kept r i → (y <ℤ pos 0 → x <ℤ pos 0) → (pos 0 <ℤ y → pos 0 <ℤ x) → (InRange k y → ⊥) → Handled k m r v i x y → Handled k m r' v' i x y → v ≡ v'
handled_one S (integer s n) None r r' v v' i x y ok kept a b out h h' = absurd (refused r i 6 tt h kept)
handled_one S (integer s n) Clamp r r' v v' i x y ok kept a b out h h' = outside (integer s n) y out (λ l. h.1 l ∙ sym (h'.1 l)) (λ l. h.2 l ∙ sym (h'.2 l))
handled_one S (integer s n) Wrap r r' v v' i x y ok kept a b out h h' = one_number s n v v' y ok h.1 h'.1
handled_one S (binary p w s) None r r' v v' i x y ok kept a b out h h' = absurd (refused r i 7 tt h kept)
handled_one S (binary p w s) Clamp r r' v v' i x y ok kept a b out h h' = outside (binary p w s) y out
    (λ (l : y <ℤ lowest (binary p w s)). let m = a (omega (ints, low_zero (binary p w s))) in h.1 m ∙ sym (h'.1 m))
    (λ (l : highest (binary p w s) <ℤ y). let m = b (omega (ints, high_zero (binary p w s))) in h.2 m ∙ sym (h'.2 m))
handled_one S (binary p w s) Wrap r r' v v' i x y ok kept a b out h h' = absurd h

in_range? : (k : Kind) (y : ℤ) {C : Type 0} → (InRange k y → C) → ((InRange k y → ⊥) → C) → C
in_range? k y f g = split y (lowest k) (λ (l : y <ℤ lowest k). g (λ (h : InRange k y). omega (ints, h.0)))
    (λ (l : lowest k ≤ℤ y). split (highest k) y (λ (m : highest k <ℤ y). g (λ (h : InRange k y). omega (ints, h.1))) (λ (m : y ≤ℤ highest k). f (l, m)))

pub settled : (S : Settings) (r r' : Answer) (v v' : Value) (i : ℕ) (x : ℤ) → WellFormed S.to → Kept r i → Rounded S r v i x → Rounded S r' v' i x → v ≡ v'
settled S r r' v v' i x ok kept A B =
    let k = S.to in
    let e : B.y ≡ A.y = unique (grid_of k) S.rule B.pick A.pick in
    in_range? k A.y
    (λ (h : InRange k A.y). (A.result h).1 ∙ ap num (sym e) ∙ sym (B.result (subst (λ (z : ℤ). InRange k z) (sym e) h)).1)
    (λ n. handled_one S k S.range r r' v v' i x A.y ok kept (below_zero S x A.y A.pick) (above_zero S x A.y A.pick) n (A.past n)
    (subst (λ (z : ℤ). Handled k S.range r' v' i x z) e (B.past (λ h. n (subst (λ (z : ℤ). InRange k z) e h)))))

-- so whatever meets demand 3 has the results of the definitions, at each element that these keep
pub pinned : (I : Inputs) (r : Answer) (res : ℕ → Value) → Demand3 (call_of I) r res → (i : ℕ) (x : ℤ) → Taken (call_of I) i x → Kept (answer_of I) i → res i ≡ result_at I (destination_of I) i
pinned I r res D i x t kept = sym (settled (call_of I).settings (answer_of I) r (result_at I (destination_of I) i) (res i) i x (subst WellFormed (sym (to_is I)) (good I.to)) kept ((demand3 I).each i x t) (D.each i x t))
