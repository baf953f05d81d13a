-- `Table::judge`: what is asked by the survey's word is what the definition asks.
use mathlib.Core.Path.{◌≡◌, refl, sym, ap, ◌∙◌}
use mathlib.Core.Bool.{Bool, true, false}
use Prim.Native.Nat.{ℕ}
use Rattle.std.specs.Bool.{then_some}
use Rattle.std.specs.Prelude.{Option, unwrap_or}
use Rattle.std.proofs.lemmas.Result.{err_from_is_err_and}
use Rattle.laws.proofs.Tests.{clash}
use Rattle.rows.specs.declared.Row.{Row}
use Rattle.head.specs.declared.surveying.Survey.{Survey}
use Rattle.head.specs.Head.{concerns}
use Rattle.head.specs.Judged.{Judging}
use Rattle.share.specs.declared.Table.{Table}
use Rattle.share.specs.Sound.{Sound}
use Rattle.share.specs.Table.{row}
use Rattle.share.proofs.Sound.{sound_says}
use Rattle.share.proofs.Stepping.{survey_ahead, verdict_read, step_refused, nothing_against, named_chosen}
use Rattle.share.proofs.Totals.{total_most}
use Rattle.share.proofs.Table.judge.Goals as goal

-- the row is orderly where the table is sound
judging : (t : Table) {row_told : Option Row} {is_told : Bool} {r : Row} (queue : ℕ) → row_told ≡ then_some is_told r → r ≡ row t queue → (is_told ≡ true → Sound t) → Judging t.head row_told
judging t {is_told = true} queue there read is =
    rw (there, read) (record { orderly = (is refl).orderly_table.each queue; total_high = λ e. total_most t (is refl).orderly_table })
judging t {is_told = false} queue there read is = rw there (record { orderly = (refl, refl); total_high = λ e. absurd (clash e refl) })

pub verdict-requires : goal.verdict-requires
verdict-requires c =
    let t = c.args.self.now in
    judging t c.concerns-queue.result c.then_some-row.ensures c.row_of.ensures
    (λ e. sound_says t (sym c.survey-survey.ensures.sound_told ∙ sym c.is_some.ensures ∙ e))

pub returns-in_err-verdict-clause-against : goal.returns-in_err-verdict-clause-against
returns-in_err-verdict-clause-against c =
    let t = c.args.self.now in
    let judged = verdict_read t c.survey-survey.result c.args.event c.verdict.ensures c.then_some-row.ensures c.is_some.ensures c.row_of.ensures c.concerns-queue.ensures c.unwrap_or.ensures c.unwrap_or-told.ensures in
    let against = step_refused t c.survey-survey.result c.survey-survey.ensures c.args.event c.verdict.result judged c.in_err-verdict.field-0.0 c.in_err-verdict.was in
    let p = err_from_is_err_and c.from_residual.result c.from_residual.ensures.1 in
    rw (p.1, p.2) against

pub returns-clause-allowed : goal.returns-clause-allowed
returns-clause-allowed c =
    let t = c.args.self.now in
    let survey = c.survey-survey.result in
    let h = c.survey-survey.ensures in
    let judged = verdict_read t c.survey-survey.result c.args.event c.verdict.ensures c.then_some-row.ensures c.is_some.ensures c.row_of.ensures c.concerns-queue.ensures c.unwrap_or.ensures c.unwrap_or-told.ensures in
    record {
      nothing_against = nothing_against t survey h c.args.event c.verdict.result judged c.in_ok-verdict.was;
      ahead = rw c.unwrap_or-told.ensures (survey_ahead t survey h);
      to_the_chosen =
          λ e.
          c.concerns-queue.ensures
          ∙ ap (concerns c.unwrap_or.result) e
          ∙ c.unwrap_or.ensures
          ∙ ap (λ (s : Survey). unwrap_or s.chosen 0) c.unwrap_or-told.ensures
          ∙ named_chosen t survey h c.args.event c.verdict.result judged c.in_ok-verdict.was e;
    }
