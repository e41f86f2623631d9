use Rattle.std.proofs.Common.{inr, refl, ap, ◌∙◌, rules}
use Rattle.std.proofs.lemmas.Result.{err_from_is_err_and}
use Rattle.chains.specs.Sized.{count_of}
use Rattle.capture.proofs.Copying.{labels_copied}
use Rattle.capture.proofs.Shown.{not_shown, shown_row}
use Rattle.capture.proofs.showing.show.Goals as goal

pub returns-in_err-count : goal.returns-in_err-count
returns-in_err-count c =
    let p = err_from_is_err_and c.from_residual-in_err-count.result c.from_residual-in_err-count.ensures.1 in
    let judgement = c.in_ok-judgement.ensures in
    rw (p.1, p.2) (inr (not_shown c.in_ok-judgement.judgement judgement.0 judgement.1 c.in_ok-colour.ensures c.in_err-count.ensures.answer.0), refl, refl, c.in_err-count.ensures.answer.1)

pub returns : goal.returns
returns c =
    let judgement = c.in_ok-judgement.ensures in
    let admitted = c.in_ok-colour.ensures in
    record {
      colour = c.in_ok-colour.colour;
      no_line = admitted.no_line;
      there = admitted.there;
      row = shown_row c.in_ok-judgement.judgement judgement.0 judgement.1 c.in_ok-count.ensures.answer.1;
      labels = labels_copied c.points-points.result (c.points-points.ensures.value ∙ ap count_of c.size.ensures) (search rules) (search rules) admitted.fitting.stands judgement.2.labels
          _ _ c.args.chains.now c.args.rooms.now (search rules) (search rules);
    }
