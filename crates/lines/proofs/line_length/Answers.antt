-- `line_length` searches for the newline.
use lib.Dec.{eqb}
use borrow.Author.Tests.{tests}
use Rattle.std.proofs.Common.{rules}
use Rattle.std.proofs.lemmas.Iterator.{YieldsList-from_slice}
use Rattle.std.proofs.lemmas.Iterator.Search.{position_from_yields_List}
use Rattle.lines.specs.Cut.{newline}
use Rattle.lines.proofs.Cutting.{found_before}
use Rattle.lines.proofs.line_length.Goals as goal

pub returns : goal.returns
returns c =
    found_before newline c.args.s.now
    (position_from_yields_List (λ b. eqb b newline) _ _ c.position.result c.position.ensures.ran (YieldsList-from_slice _ c.iter.ensures.rest) (λ x b q k. search (rules, tests)))
