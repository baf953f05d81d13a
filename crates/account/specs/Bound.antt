-- How low an account may not fall.
use Rattle.std.specs.Prelude.{Bool}
use Rattle.fractions.specs.Fraction.{whole, minus, at_most}
use Rattle.account.specs.Account.{Queue}

-- at or below "minus the longest request opened since it last joined"
unfoldable pub too_low : Queue → Bool
too_low q = at_most q.owed (minus (whole q.longest))
