-- T-09, "Callers that relied on 20 pass 20 by name": a list of events in which every length of 0 is said by name.
use Rattle.std.specs.Prelude.{List, [], ◌∷◌}
use Rattle.rows.specs.declared.Terms.{Terms}
use Rattle.rows.specs.Numbers.{length_meant}
use Rattle.head.specs.declared.Event.{Event}
use Rattle.head.specs.declared.Event.TheVariants.{Fresh, Join, Leave, Reweight, Length, Grant, Return}
use Rattle.share.specs.declared.Table.{Table}
use Rattle.share.specs.Calls.{step}

-- an event with the default of these terms in place of a length of 0
abbrev pub by_name : Terms → Event → Event
by_name terms (Fresh fresh) = Fresh fresh
by_name terms (Join queue weight length) = Join queue weight (length_meant terms length)
by_name terms (Leave queue) = Leave queue
by_name terms (Reweight queue weight length) = Reweight queue weight (length_meant terms length)
by_name terms (Length queue length) = Length queue (length_meant terms length)
by_name terms Grant = Grant
by_name terms (Return queue used early) = Return queue used early

-- a run so: each event by the terms of the table that it comes to
abbrev pub all_by_name : Table → List Event → List Event
all_by_name t [] = []
all_by_name t (e ∷ es) = by_name t.head.terms e ∷ all_by_name (step t e).table es
