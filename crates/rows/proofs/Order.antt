-- The orders in which requests go. All that the walk and the choice know of an order is that it is strict and that of three bids the middle one goes before the
-- last or after the first (`Strict`). Both rules are such orders, and so is the one that the terms name.
use mathlib.Core.Path.{◌≡◌, refl}
use mathlib.Core.Bool.{Bool, true, false, cond}
use mathlib.Core.Logic.{◌⊎◌, ⊎_elim}
use Prim.Native.Nat.{◌≤◌, ◌<◌}
use native.Mathlib.Omega.{arith}
use lib.Dec.{ltb, eqb}
use borrow.Author.Tests.{ltb-true, ltb-false, lt-ltb, eqb-true, eqb-false, eq-eqb, ne_eqb}
use Rattle.rows.specs.declared.Terms.{Terms}
use Rattle.rows.specs.declared.looking.Bid.{Bid}
use Rattle.rows.specs.Order.{sooner, sooner_or_behind, goes_before}

pub record Strict (before : Bid → Bid → Bool) : Type 0 where
  pub irrefl : (a : Bid) → before a a ≡ true → ⊥
  pub trans : (a b c : Bid) → before a b ≡ true → before b c ≡ true → before a c ≡ true
  pub between : (a b c : Bid) → before a c ≡ true → before a b ≡ false → before b c ≡ true

-- rule 1
sooner_strict : Strict sooner
sooner_strict =
    record {
      irrefl = λ a p. omega (arith, ltb-true a.deadline a.deadline p);
      trans =
          λ a b c p q.
          lt-ltb a.deadline c.deadline (omega (arith, ltb-true a.deadline b.deadline p, ltb-true b.deadline c.deadline q));
      between =
          λ a b c p q.
          lt-ltb b.deadline c.deadline (omega (arith, ltb-true a.deadline c.deadline p, ltb-false a.deadline b.deadline q));
    }

-- rule 2, in words and back
module _ (a b : Bid) where
  pub behind_says : sooner_or_behind a b ≡ true → (a.deadline < b.deadline) ⊎ ((a.deadline ≡ b.deadline) × (a.position < b.position))
  behind_says e = by (eqb a.deadline b.deadline) refl e
    where
      by : (c : Bool) → eqb a.deadline b.deadline ≡ c → cond c (ltb a.position b.position) (sooner a b) ≡ true → (a.deadline < b.deadline) ⊎ ((a.deadline ≡ b.deadline) × (a.position < b.position))
      by true same p = ◌⊎◌.inr (eqb-true _ _ same, ltb-true _ _ p)
      by false apart p = ◌⊎◌.inl (ltb-true _ _ p)

  pub says_behind : (a.deadline < b.deadline) ⊎ ((a.deadline ≡ b.deadline) × (a.position < b.position)) → sooner_or_behind a b ≡ true
  says_behind h =
      ⊎_elim (λ less. rw (ne_eqb a.deadline b.deadline (λ e. omega arith)) (lt-ltb _ _ less))
      (λ tie. rw (eq-eqb _ _ tie.0) (lt-ltb _ _ tie.1))
      h

  pub not_behind : sooner_or_behind a b ≡ false → (b.deadline < a.deadline) ⊎ ((a.deadline ≡ b.deadline) × (b.position ≤ a.position))
  not_behind e = by (eqb a.deadline b.deadline) refl e
    where
      by : (c : Bool) → eqb a.deadline b.deadline ≡ c → cond c (ltb a.position b.position) (sooner a b) ≡ false → (b.deadline < a.deadline) ⊎ ((a.deadline ≡ b.deadline) × (b.position ≤ a.position))
      by true same p = ◌⊎◌.inr (eqb-true _ _ same, ltb-false _ _ p)
      by false apart p = let ne = eqb-false a.deadline b.deadline apart in ◌⊎◌.inl (omega (arith, ltb-false a.deadline b.deadline p, ne))

behind_strict : Strict sooner_or_behind
behind_strict =
    record {
      irrefl = λ a p. ⊎_elim (λ less. omega arith) (λ tie. omega (arith, tie.1)) (behind_says a a p);
      trans = λ a b c p q. says_behind a c (chain a b c (behind_says a b p) (behind_says b c q));
      between = λ a b c p q. says_behind b c (middle a b c (behind_says a c p) (not_behind a b q));
    }
  where
    chain : (a b c : Bid) → (a.deadline < b.deadline) ⊎ ((a.deadline ≡ b.deadline) × (a.position < b.position)) → (b.deadline < c.deadline) ⊎ ((b.deadline ≡ c.deadline) × (b.position < c.position)) → (a.deadline < c.deadline) ⊎ ((a.deadline ≡ c.deadline) × (a.position < c.position))
    chain a b c (◌⊎◌.inl p) (◌⊎◌.inl q) = ◌⊎◌.inl (omega arith)
    chain a b c (◌⊎◌.inl p) (◌⊎◌.inr q) = ◌⊎◌.inl (omega (arith, q.0))
    chain a b c (◌⊎◌.inr p) (◌⊎◌.inl q) = ◌⊎◌.inl (omega (arith, p.0))
    chain a b c (◌⊎◌.inr p) (◌⊎◌.inr q) = ◌⊎◌.inr (omega (arith, p.0, q.0), omega (arith, p.1, q.1))

    middle : (a b c : Bid) → (a.deadline < c.deadline) ⊎ ((a.deadline ≡ c.deadline) × (a.position < c.position)) → (b.deadline < a.deadline) ⊎ ((a.deadline ≡ b.deadline) × (b.position ≤ a.position)) → (b.deadline < c.deadline) ⊎ ((b.deadline ≡ c.deadline) × (b.position < c.position))
    middle a b c (◌⊎◌.inl p) (◌⊎◌.inl q) = ◌⊎◌.inl (omega arith)
    middle a b c (◌⊎◌.inl p) (◌⊎◌.inr q) = ◌⊎◌.inl (omega (arith, q.0))
    middle a b c (◌⊎◌.inr p) (◌⊎◌.inl q) = ◌⊎◌.inl (omega (arith, p.0))
    middle a b c (◌⊎◌.inr p) (◌⊎◌.inr q) = ◌⊎◌.inr (omega (arith, p.0, q.0), omega (arith, p.1, q.1))

-- the one that the terms name
pub strict : (terms : Terms) → Strict (goes_before terms)
unfolding goes_before
strict terms = by (eqb terms.rule 2)
  where
    by : (b : Bool) → Strict (λ a c. cond b (sooner_or_behind a c) (sooner a c))
    by true = record { irrefl = behind_strict.irrefl; trans = behind_strict.trans; between = behind_strict.between }
    by false = record { irrefl = sooner_strict.irrefl; trans = sooner_strict.trans; between = sooner_strict.between }

-- what each rule's order is, and that under both the deadline comes first
module _ (terms : Terms) (a b : Bid) where
  pub rule_1 : terms.rule ≡ 1 → goes_before terms a b ≡ sooner a b
  unfolding goes_before
  rule_1 is = rw (ne_eqb terms.rule 2 (λ e. omega (arith, is, e))) refl

  pub rule_2 : terms.rule ≡ 2 → goes_before terms a b ≡ sooner_or_behind a b
  unfolding goes_before
  rule_2 is = rw (eq-eqb terms.rule 2 is) refl

  pub not_before : goes_before terms a b ≡ false → b.deadline ≤ a.deadline
  unfolding goes_before
  not_before e = by (eqb terms.rule 2) e
    where
      by : (c : Bool) → cond c (sooner_or_behind a b) (sooner a b) ≡ false → b.deadline ≤ a.deadline
      by true p = ⊎_elim (λ less. omega arith) (λ tie. omega (arith, tie.0)) (not_behind a b p)
      by false p = ltb-false a.deadline b.deadline p
