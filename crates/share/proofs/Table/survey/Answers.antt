-- `Table::survey`: the walk was over, and the head makes of it what the table is.
use mathlib.Core.Path.{◌≡◌}
use lib.ListN.{length}
use Rattle.std.proofs.Common.{rules}
use Rattle.share.proofs.Surveys.{may_survey, survey_tells}
use Rattle.share.proofs.Table.survey.Goals as goal

pub survey-requires : goal.survey-requires
survey-requires c =
    let one_each : length c.args.self.now.rows ≡ 64 = search rules in
    let far = c.walked.ensures.over c.in_ok-seen.seen c.in_ok-seen.was in
    rw c.row_of.ensures (may_survey c.args.self.now c.in_ok-seen.seen one_each far.0 far.1)

pub returns : goal.returns
returns c =
    let one_each : length c.args.self.now.rows ≡ 64 = search rules in
    let far = c.walked.ensures.over c.in_ok-seen.seen c.in_ok-seen.was in
    rw (c.survey.ensures, c.row_of.ensures) (survey_tells c.args.self.now c.in_ok-seen.seen one_each far.0)
