-- Two accounts that are the same: as fractions are, by cross products, and otherwise equal.
use Rattle.std.specs.Prelude.{◌≡◌, ℕ}
use Rattle.fractions.specs.Fraction.{nothing, ◌~◌}
use Rattle.account.specs.Account.{Queue, Entry, absent, present, Account, entry, owed_to}

-- an entry but for its account
abbrev pub noted : Queue → Queue
noted q =
    record {
      weight = q.weight;
      owed = nothing;
      going = q.going;
      length = q.length;
      served = q.served;
      next = q.next;
      longest = q.longest;
    }

abbrev pub unpriced : Entry → Entry
unpriced absent = absent
unpriced (present q) = present (noted q)

pub record Same (a b : Account) : Type 0 where
  pub terms_same : a.terms ≡ b.terms
  pub entries_same : (i : ℕ) → unpriced (entry a i) ≡ unpriced (entry b i)
  pub owed_same : (i : ℕ) → owed_to (entry a i) ~ owed_to (entry b i)
  pub virtual_same : a.virtual ~ b.virtual
