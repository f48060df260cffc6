-- The kinds' rows are listed, and an element's pattern is one of its kind.
use Rattle.std.proofs.Common.{ℕ, ◌^◌, ◌<◌, sym, ap, ap₂, subst, ◌∙◌}
use Rattle.patterns.specs.Kind.{Kind, bits}
use Rattle.patterns.specs.Pattern.{as_f64}
use Rattle.kinds.specs.Table.{kind_of}
use Rattle.cast_spec.specs.Fit.{filled}
use Rattle.typed_casts.proofs.Rows.{listed_row, of_kind, pattern_of_row}
use Rattle.typed_casts.proofs.outcome.Goals as goal

pub row_of-source-requires : goal.row_of-source-requires
row_of-source-requires g c = subst (λ (n : ℕ). n < 11) (sym c.CODE.ensures) g.met.S.CastTo.laws.from_listed

pub row_of-target-requires : goal.row_of-target-requires
row_of-target-requires g c = subst (λ (n : ℕ). n < 11) (sym c.CODE-2.ensures) g.met.S.CastTo.laws.to_listed

pub outcome-requires : goal.outcome-requires
outcome-requires g c =
    let s = c.row_of-source in
    let t = c.row_of-target in
    let laws = g.met.S.CastTo.laws in (
      pattern_of_row _ _ c.CODE.ensures s.result s.ensures laws.from_listed c.pattern.result (subst (λ (n : ℕ). n < 2 ^ bits (kind_of g.S.Number.CODE)) (sym c.pattern.ensures) (laws.source_fits c.args.x)),
      listed_row _ _ c.CODE-2.ensures t.result t.ensures laws.to_listed,
    )

pub returns : goal.returns
returns g c =
    let s = c.row_of-source in
    let t = c.row_of-target in
    let laws = g.met.S.CastTo.laws in
    c.outcome.ensures
    ∙ ap₂ (λ (k l : Kind). filled k (as_f64 l c.pattern.result) c.args.fit) (of_kind _ _ c.CODE-2.ensures t.result t.ensures laws.to_listed) (of_kind _ _ c.CODE.ensures s.result s.ensures laws.from_listed)
    ∙ ap (λ (b : ℕ). filled (kind_of g.T.Number.CODE) (as_f64 (kind_of g.S.Number.CODE) b) c.args.fit) c.pattern.ensures
