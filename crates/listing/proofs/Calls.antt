-- The chunk call into a lent buffer, and its report.
use mathlib.Core.Path.{◌≡◌, sym, ap, ap₂, subst, ◌∙◌}
use mathlib.Core.List.{List, ◌++◌}
use Prim.Native.Nat.{ℕ, ◌+◌, ◌*◌, ◌/◌, ◌≤◌}
use native.Mathlib.Nat.{le_of_eq, le_trans, mul-le-mul, div-le_self}
use native.Mathlib.Omega.{arith}
use lib.ListN.{length, take, drop, replicate, length-append, length-replicate}
use lib.Seq.{take_at, length-take-le}
use Rattle.patterns.specs.Kind.{width}
use Rattle.answers.specs.Answer.{position_of}
use Rattle.kinds.specs.Table.{kind_of}
use Rattle.kinds.specs.Row.{row_of}
use Rattle.answers.specs.declared.Reply.{Reply}
use Rattle.kinds.specs.declared.KindRow.{KindRow}
use Rattle.kinds.proofs.Listed.{row_width}
use Rattle.cast_spec.specs.Chunk.{Inputs, inputs, answer_of, destination_of}
use Rattle.cast_spec.specs.Contract.{Contract}
use Rattle.text.specs.Wrote.{Wrote}
use Rattle.report.specs.Report.{report}
use Rattle.report.specs.Room.{ReportFits}
use Rattle.listing_input.specs.Input.{chunk_of}
use Rattle.listing.specs.Listing.{report_of}
use Rattle.listing_input.proofs.Parts.{row_listed, row_most}
use Rattle.listing.specs.Room.{CallFits}
use Rattle.listing.proofs.Unchanged.{position_counted, same_report}
use Rattle.answers.specs.Outcome.{Answer}

-- ---- n elements of w bytes, each of at most 8, of at most 8,186 bytes of source
pub destination_most : (n w : ℕ) → n ≤ 8186 → w ≤ 8 → n * w ≤ 65488
destination_most n w h l = mul-le-mul h l

lines_most : (n w : ℕ) → n ≤ 8186 → w ≤ 8 → 18 + n * (2 * w + 1) ≤ 139180
lines_most n w h l =
    let m : 2 * w + 1 ≤ 17 = omega arith in
    let k : n * (2 * w + 1) ≤ 8186 * 17 = mul-le-mul h m in
    omega arith

module _ (src keys targets : List ℕ) (from to rounding range : ℕ) (work d : List ℕ) (ask : CallFits src from to work d) (x y : KindRow) (ex : x ≡ row_of (kind_of from)) (ey : y ≡ row_of (kind_of to)) where
  -- the elements and the destination's bytes, as the program has them
  abbrev n : ℕ
  n = length src / x.bytes

  abbrev size : ℕ
  size = n * y.bytes

  n_most : n ≤ 8186
  n_most = le_trans (div-le_self (length src) x.bytes) ask.source_fits

  pub size_most : size ≤ 65488
  size_most = destination_most n y.bytes n_most (row_most to ask.to_listed y ey)

  pub size_within : size ≤ length work
  size_within = le_trans size_most ask.work_fits

  pub size_lent : size ≡ length (take size work)
  size_lent = sym (length-take-le size work size_within)

  abbrev I : Inputs
  I = inputs src (take size work) keys targets from to rounding range

  module _ (r : Reply) (b : List ℕ) (done : Contract I r b) (kept : length b ≡ length (take size work)) where
    abbrev lent : List ℕ
    lent = take size (b ++ drop size work)

    back : lent ≡ b
    back = take_at b (drop size work) size (kept ∙ sym size_lent)

    pub size_back : size ≤ length (b ++ drop size work)
    size_back = omega (arith, length-append b (drop size work), kept, size_lent)

    pub size_relent : size ≡ length lent
    size_relent = size_lent ∙ sym kept ∙ sym (ap length back)

    pub report_asks : ReportFits d lent r.answer n y.bytes
    report_asks = record {
      width = row_listed to ask.to_listed y ey;
      below_10000 = omega (arith, n_most);
      position = subst (λ (a : Answer). position_of a ≤ n) (sym done.answer) (subst (λ (z : ℕ). position_of (answer_of I) ≤ length src / z) (sym (row_width (kind_of from) x ex)) (position_counted I));
      whole = le_of_eq size_relent;
      fits = le_trans (lines_most n y.bytes n_most (row_most to ask.to_listed y ey)) ask.report_fits;
    }

    same_size : size ≡ length src / width (kind_of from) * width (kind_of to)
    same_size = ap₂ (λ (p q : ℕ). length src / p * q) (row_width (kind_of from) x ex) (row_width (kind_of to) y ey)

    reported : report r.answer n y.bytes lent ≡ report_of (chunk_of src keys targets from to rounding range)
    reported =
        ap (λ (l : List ℕ). report r.answer n y.bytes l) (back ∙ done.bytes)
        ∙ ap (λ (a : Answer). report a n y.bytes (destination_of I)) done.answer
        ∙ ap₂ (λ (p q : ℕ). report (answer_of I) (length src / p) q (destination_of I)) (row_width (kind_of from) x ex) (row_width (kind_of to) y ey)
        ∙ same_report src (take size work) (replicate (length src / width (kind_of from) * width (kind_of to)) 0) keys targets from to rounding range (sym size_lent ∙ same_size ∙ sym (length-replicate (length src / width (kind_of from) * width (kind_of to)) 0))

    pub call_reported : (q : ℕ) (d' : List ℕ) → Wrote d 0 (report r.answer n y.bytes lent) q d' → Wrote d 0 (report_of (chunk_of src keys targets from to rounding range)) q d'
    call_reported q d' w = subst (λ (z : List ℕ). Wrote d 0 z q d') reported w
