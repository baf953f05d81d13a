-- `Table::change`: nothing speaks against the event, so it may be done, and what is done is what the definition says.
use mathlib.Core.Path.{ap, ◌∙◌}
use Rattle.share.specs.Calls.{accepted}
use Rattle.share.proofs.Accepted.{join_accepted, leave_accepted, reweight_accepted, length_accepted, grant_accepted, return_accepted}
use Rattle.share.proofs.Stepping.{allowed_as, step_allowed}
use Rattle.share.proofs.Table.change.Goals as goal

pub enter-requires : goal.enter-requires
enter-requires c =
    let t = c.args.self.now in
    let allowed = c.in_ok-queue.ensures.allowed in
    let may = join_accepted t _ _ _ (allowed_as t allowed c.in-Join.is) in
    (may, allowed.ahead)

pub returns-in-Join : goal.returns-in-Join
returns-in-Join c = ap accepted c.enter.ensures ∙ step_allowed c.args.self.now c.in_ok-queue.ensures.allowed c.in-Join.is

pub depart-requires : goal.depart-requires
depart-requires c =
    let t = c.args.self.now in
    let allowed = c.in_ok-queue.ensures.allowed in
    let may = leave_accepted t _ (allowed_as t allowed c.in-Leave.is) in
    (may, allowed.ahead)

pub returns-in-Leave : goal.returns-in-Leave
returns-in-Leave c = ap accepted c.depart.ensures ∙ step_allowed c.args.self.now c.in_ok-queue.ensures.allowed c.in-Leave.is

pub reenter-requires : goal.reenter-requires
reenter-requires c =
    let t = c.args.self.now in
    let allowed = c.in_ok-queue.ensures.allowed in
    let may = reweight_accepted t _ _ _ (allowed_as t allowed c.in-Reweight.is) in
    (may, allowed.ahead)

pub returns-in-Reweight : goal.returns-in-Reweight
returns-in-Reweight c = ap accepted c.reenter.ensures ∙ step_allowed c.args.self.now c.in_ok-queue.ensures.allowed c.in-Reweight.is

pub set_length-requires : goal.set_length-requires
set_length-requires c =
    let t = c.args.self.now in
    let allowed = c.in_ok-queue.ensures.allowed in
    let may = length_accepted t _ _ (allowed_as t allowed c.in-Length.is) in
    may

pub returns-in-Length : goal.returns-in-Length
returns-in-Length c = ap accepted c.set_length.ensures ∙ step_allowed c.args.self.now c.in_ok-queue.ensures.allowed c.in-Length.is

pub hand_out-requires : goal.hand_out-requires
hand_out-requires c =
    let t = c.args.self.now in
    let allowed = c.in_ok-queue.ensures.allowed in
    let may = grant_accepted t (allowed_as t allowed c.in-Grant.is) in
    (may, allowed.to_the_chosen c.in-Grant.is)

pub returns-in-Grant : goal.returns-in-Grant
returns-in-Grant c = c.hand_out.ensures ∙ step_allowed c.args.self.now c.in_ok-queue.ensures.allowed c.in-Grant.is

pub take_back-requires : goal.take_back-requires
take_back-requires c =
    let t = c.args.self.now in
    let allowed = c.in_ok-queue.ensures.allowed in
    let may = return_accepted t _ _ _ (allowed_as t allowed c.in-Return.is) in
    (may, allowed.ahead)

pub returns-in-Return : goal.returns-in-Return
returns-in-Return c = ap accepted c.take_back.ensures ∙ step_allowed c.args.self.now c.in_ok-queue.ensures.allowed c.in-Return.is

pub returns-in-Fresh : goal.returns-in-Fresh
returns-in-Fresh c = ap accepted c.empty.ensures ∙ step_allowed c.args.self.now c.in_ok-queue.ensures.allowed c.in-Fresh.is
