-- T-02, "the account's V, which then never falls over a whole run": what goes on with a run. An accepted `S` begins a new one.
use Rattle.std.specs.Prelude.{Bool, true, false}
use Rattle.head.specs.declared.Event.{Event}
use Rattle.head.specs.declared.Event.TheVariants.{Fresh, Join, Leave, Reweight, Length, Grant, Return}
use Rattle.calls.specs.Public.{Call, event, release, report, standing}
use Rattle.account.specs.Changes.{Change, begins, joins, leaves, lengthens, returns}

abbrev pub goes_on : Event → Bool
goes_on (Fresh terms) = false
goes_on (Join queue weight length) = true
goes_on (Leave queue) = true
goes_on (Reweight queue weight length) = true
goes_on (Length queue length) = true
goes_on Grant = true
goes_on (Return queue used early) = true

abbrev pub call_goes_on : Call → Bool
call_goes_on (event e) = goes_on e
call_goes_on release = true
call_goes_on (report lent) = true
call_goes_on (standing queue) = true

abbrev pub change_goes_on : Change → Bool
change_goes_on (begins terms) = false
change_goes_on (joins queue weight length) = true
change_goes_on (leaves queue) = true
change_goes_on (lengthens queue length) = true
change_goes_on (returns queue used early) = true
