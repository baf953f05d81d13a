-- The accepted events of a run of calls, as the account counts them. Refused calls count as nothing.
use Rattle.std.specs.Prelude.{cond, List, [], ◌∷◌, ◌++◌}
use Rattle.rows.specs.declared.Terms.{Terms}
use Rattle.head.specs.declared.Event.{Event}
use Rattle.head.specs.Answers.{is_accepted}
use Rattle.share.specs.declared.Reply.{Reply}
use Rattle.share.specs.declared.Table.{Table}
use Rattle.share.specs.Calls.{step}
use Rattle.share.specs.Events.{empty_table}
use Rattle.share.specs.Runs.{run}
use Rattle.calls.specs.Public.{Call, events_of}
use Rattle.account.specs.Account.{Account, no_one}
use Rattle.account.specs.Books.{account_from}
use Rattle.account.specs.Changes.{Change, changes_of}

unfoldable pub counted_of : Reply → Event → List Change
counted_of r e = cond (is_accepted r.answer) (changes_of e) []

abbrev pub counted : Table → List Event → List Change
counted t [] = []
counted t (e ∷ es) = counted_of (step t e) e ++ counted (step t e).table es

-- the changes of a run from a fresh table, and its account
unfoldable pub changes : Terms → List Event → List Change
changes terms calls = counted (empty_table terms) calls

unfoldable pub account_of : Terms → List Event → Account
account_of terms calls = account_from (no_one terms) (changes terms calls)

unfoldable pub table_after : Terms → List Event → Table
table_after terms calls = run (empty_table terms) calls

-- of a run of calls: a release, a lag report and the panel's question change no account
abbrev pub account_of_calls : Terms → List Call → Account
account_of_calls terms cs = account_of terms (events_of cs)
