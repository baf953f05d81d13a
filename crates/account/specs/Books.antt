-- The account's own release, and the account of a list of changes.
use Rattle.std.specs.Prelude.{Bool, true, false, cond, ◌&&◌, List, [], ◌∷◌, ◌≡◌, ℕ, zero, suc, length}
use Rattle.std.proofs.Math.Option.{none, some}
use Rattle.laws.specs.Lists.{first_from}
use Rattle.account.specs.Account.{Entry, Account, entry, is_going, settled, freed, made}
use Rattle.account.specs.Changes.{Change, ends_in_release}

-- "a going one as soon as its account is 0 or more after an event that ends in a release"
unfoldable pub due : Entry → Bool
due e = is_going e && settled e

-- freed one after another, in any order, until there is none
pub data Clears : Account → Account → Type 0 where
  done : {a : Account} → ((i : ℕ) → due (entry a i) ≡ false) → Clears a a
  one : {a b : Account} (i : ℕ) → due (entry a i) ≡ true → Clears (freed a i) b → Clears a b

-- the lowest first, at most so many times
abbrev pub clearing : ℕ → Account → Account
clearing zero a = a
clearing (suc most) a = elim (first_from due 0 a.entries) [ none ↦ a | some i ↦ clearing most (freed a i) ]

unfoldable pub cleared : Account → Account
cleared a = clearing (length a.entries) a

-- a change with its release
unfoldable pub booked : Account → Change → Account
booked a c = cond (ends_in_release c) (cleared (made a c)) (made a c)

-- the account after a list of changes
abbrev pub account_from : Account → List Change → Account
account_from a [] = a
account_from a (c ∷ cs) = account_from (booked a c) cs

-- the same with every release in whatever order: where a list of changes may end
abbrev pub BookedAs : Bool → Account → Account → Type 0
BookedAs true a b = Clears a b
BookedAs false a b = b ≡ a

pub data Books : Account → List Change → Account → Type 0 where
  none_left : {a : Account} → Books a [] a
  next_change : {a b z : Account} {c : Change} {cs : List Change} → BookedAs (ends_in_release c) (made a c) b → Books b cs z → Books a (c ∷ cs) z
