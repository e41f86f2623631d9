use Rattle.std.proofs.Common.{◌≡◌, ℕ, List, drop, get_or, sym, ap, ◌∙◌, subst, arith}
use Rattle.grid.specs.Grid.{points}
use Rattle.grid.proofs.Square.{graph}
use Rattle.chains.proofs.Labelling.{labelling_start, labelling_skip, labelling_step, labelling_end, past_same, taken_off, others_kept}
use Rattle.chains.proofs.labels.label_points.Goals as goal
use Rattle.chains.proofs.labels.label_points.Goals.{then-classes-p+then-labels-p, else-classes-p, else-classes-p-via-then-classes-p+else-labels-p, else-classes-p-via-else-classes-p}

pub loop-p-init : goal.loop-p-init
loop-p-init c =
    let same : c.points.result ≡ points c.args.size.width c.args.size.height = omega arith in
    labelling_start (λ q l. subst (λ (xs : List ℕ). get_or xs q 0 ≡ 65535) (sym c.clear.ensures) (taken_off c.points.result q c.args.labels.now (omega arith)))

pub loop-p-preserved : goal.loop-p-preserved
loop-p-preserved c =
    elim c.if-classes-p.branch [
      | then-classes-p+then-labels-p w ↦
          labelling_step (graph c.args.size.width c.args.size.height) c.loop-p.invariant w.labels-is c.args.size.few.1 (omega arith)
          w.if-classes-p.true w.if-labels-p.true w.walk.ensures
      | else-classes-p w ↦ labelling_skip c.loop-p.invariant w.labels-is
          (elim w.else-classes-p.branch [
            | else-classes-p-via-then-classes-p+else-labels-p v ↦ λ out. v.if-labels-p.false
            | else-classes-p-via-else-classes-p v ↦ λ out. absurd (out v.if-classes-p.false)
          ])
    ]

pub returns : goal.returns
returns c =
    let n = points c.args.size.width c.args.size.height in
    let same : c.points.result ≡ n = omega arith in
    record {
      firsts = labelling_end c.loop-p.invariant (omega arith);
      past = past_same c.loop-p.labels c.clear.new.labels (omega arith) c.loop-p.invariant.past
          ∙ subst (λ (i : ℕ). drop i c.clear.new.labels ≡ drop i c.args.labels.now) same (ap (drop c.points.result) c.clear.ensures ∙ others_kept c.points.result c.args.labels.now);
    }
