-- A run of events.
use Rattle.std.specs.Prelude.{List, [], ◌∷◌}
use Rattle.head.specs.declared.Event.{Event}
use Rattle.share.specs.declared.Reply.{Reply}
use Rattle.share.specs.declared.Table.{Table}
use Rattle.share.specs.Calls.{step}

-- the table that a list of events leaves, refused ones too
abbrev pub run : Table → List Event → Table
run t [] = t
run t (e ∷ es) = run (step t e).table es

-- their answers beside their tables, one each
abbrev pub replies : Table → List Event → List Reply
replies t [] = []
replies t (e ∷ es) = step t e ∷ replies (step t e).table es
