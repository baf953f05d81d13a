-- What a sound table asks of one row and of the terms is decided by its test: for each notion of specs/Orderly a law from the test to the record and
-- one back.
use mathlib.Core.Path.{◌≡◌, refl, ap}
use mathlib.Core.Bool.{true, false, not}
use mathlib.Core.Logic.{◌⊎◌, ⊎_elim}
use Prim.Native.Nat.{ℕ, ◌≤◌, ◌<◌}
use native.Mathlib.Omega.{arith}
use lib.Dec.{ltb, eqb}
use borrow.Author.Tests.{le-leb, lt-ltb, le-ltb, leb-true, ltb-true, ltb-false, eqb-true, eq-eqb, not-true}
use Rattle.laws.proofs.Tests.{either, every_each, each_every, or_left, or_right, or_second, or_neither, clash}
use Rattle.rows.specs.declared.Request.{Request}
use Rattle.rows.specs.declared.Row.{Row}
use Rattle.rows.specs.declared.State.{State}
use Rattle.rows.specs.declared.State.TheVariants.{Free, Going, Asking}
use Rattle.rows.specs.declared.Terms.{Terms}
use Rattle.rows.specs.Numbers.{max_length, max_limit, max_rule, default_length, former_default}
use Rattle.rows.specs.Orderly.{outside, InRange, in_range, OrderlyRequest, orderly_request, OrderlyAs, orderly_as, OrderlyRow, orderly_row, FitsCeiling, fits_ceiling, Allowed, limit_outside, rule_outside, default_outside, allowed}

-- a number is outside exactly when it is below or above the bounds
module _ (low high n : ℕ) where
  pub outside_says : outside low high n ≡ true → (n < low) ⊎ (high < n)
  unfolding outside
  outside_says e = by (either (ltb n low)) (either (ltb high n))
    where
      by : (ltb n low ≡ true) ⊎ (ltb n low ≡ false) → (ltb high n ≡ true) ⊎ (ltb high n ≡ false) → (n < low) ⊎ (high < n)
      by (◌⊎◌.inl b) h = ◌⊎◌.inl (ltb-true n low b)
      by (◌⊎◌.inr b) (◌⊎◌.inl a) = ◌⊎◌.inr (ltb-true high n a)
      by (◌⊎◌.inr b) (◌⊎◌.inr a) = absurd (clash e (or_neither b a))

  pub within_low : outside low high n ≡ false → low ≤ n
  unfolding outside
  within_low e = ltb-false n low (or_left _ _ e)

  pub within_high : outside low high n ≡ false → n ≤ high
  unfolding outside
  within_high e = ltb-false high n (or_right (ltb n low) _ e)

  pub inside_not : low ≤ n → n ≤ high → outside low high n ≡ false
  unfolding outside
  inside_not l h = or_neither (le-ltb n low l) (le-ltb high n h)

  pub says_outside : (n < low) ⊎ (high < n) → outside low high n ≡ true
  unfolding outside
  says_outside h = ⊎_elim (λ b. rw (lt-ltb n low b)) (λ a. or_second (ltb n low) (lt-ltb high n a)) h

pub in_range_lem : (w p : ℕ) → in_range w p ≡ true → InRange w p
unfolding in_range
in_range_lem w p e = let h = every_each _ e in omega (arith, leb-true)

pub range_in : {w p : ℕ} → InRange w p → in_range w p ≡ true
unfolding in_range
range_in h = each_every _ (le-leb _ _ h.weight_low, (le-leb _ _ h.weight_high, (le-leb _ _ h.position_high, tt)))

pub orderly_request_lem : (w p : ℕ) (q : Request) → orderly_request w p q ≡ true → OrderlyRequest w p q
unfolding orderly_request
orderly_request_lem w p q e = let h = every_each _ e in omega (arith, leb-true, ltb-true, eqb-true)

pub request_orderly : {w p : ℕ} {q : Request} → OrderlyRequest w p q → orderly_request w p q ≡ true
unfolding orderly_request
request_orderly h =
    each_every _ (
      le-leb _ _ h.length_low,
      (
        le-leb _ _ h.length_high,
        (le-leb _ _ h.next_low, (le-leb _ _ h.next_high, (lt-ltb _ _ h.served_less, (eq-eqb _ _ h.stands, tt)))),
      ),
    )

pub orderly_as_lem : (s : State) (w p : ℕ) → orderly_as s w p ≡ true → OrderlyAs s w p
orderly_as_lem Free w p e = let h = every_each _ e in (eqb-true _ _ h.0, eqb-true _ _ h.1.0)
orderly_as_lem Going w p e = in_range_lem w p e
orderly_as_lem (Asking q) w p e = let h = every_each _ e in (in_range_lem w p h.0, orderly_request_lem w p q h.1.0)

pub as_orderly : (s : State) (w p : ℕ) → OrderlyAs s w p → orderly_as s w p ≡ true
as_orderly Free w p h = each_every _ (eq-eqb _ _ h.0, (eq-eqb _ _ h.1, tt))
as_orderly Going w p h = range_in h
as_orderly (Asking q) w p h = each_every _ (range_in h.0, (request_orderly h.1, tt))

pub orderly_row_lem : (r : Row) → orderly_row r ≡ true → OrderlyRow r
unfolding orderly_row
orderly_row_lem r e = orderly_as_lem r.state r.weight r.position e

pub row_orderly : (r : Row) → OrderlyRow r → orderly_row r ≡ true
unfolding orderly_row
row_orderly r h = as_orderly r.state r.weight r.position h

-- what the ceiling leaves
pub fits_says : (w : ℕ) (q : Request) → fits_ceiling w q ≡ true → FitsCeiling w q
unfolding fits_ceiling
fits_says w q e = leb-true _ _ e

pub says_fits : (w : ℕ) (q : Request) → FitsCeiling w q → fits_ceiling w q ≡ true
unfolding fits_ceiling
says_fits w q h = le-leb _ _ h

-- the terms
pub limit_within : (terms : Terms) → limit_outside terms ≡ false → (1 ≤ terms.limit) × (terms.limit ≤ max_limit)
unfolding limit_outside
limit_within terms e = (within_low 1 max_limit terms.limit e, within_high 1 max_limit terms.limit e)

pub within_limit : (terms : Terms) → 1 ≤ terms.limit → terms.limit ≤ max_limit → limit_outside terms ≡ false
unfolding limit_outside
within_limit terms low high = inside_not 1 max_limit terms.limit low high

pub rule_within : (terms : Terms) → rule_outside terms ≡ false → (1 ≤ terms.rule) × (terms.rule ≤ max_rule)
unfolding rule_outside
rule_within terms e = (within_low 1 max_rule terms.rule e, within_high 1 max_rule terms.rule e)

pub within_rule : (terms : Terms) → 1 ≤ terms.rule → terms.rule ≤ max_rule → rule_outside terms ≡ false
unfolding rule_outside
within_rule terms low high = inside_not 1 max_rule terms.rule low high

pub default_within : (terms : Terms) → default_outside terms ≡ false → (terms.default ≡ default_length) ⊎ (terms.default ≡ former_default)
unfolding default_outside
default_within terms e = by (either (eqb terms.default default_length)) (either (eqb terms.default former_default))
  where
    by : (eqb terms.default default_length ≡ true) ⊎ (eqb terms.default default_length ≡ false) → (eqb terms.default former_default ≡ true) ⊎ (eqb terms.default former_default ≡ false) → (terms.default ≡ default_length) ⊎ (terms.default ≡ former_default)
    by (◌⊎◌.inl a) b = ◌⊎◌.inl (eqb-true _ _ a)
    by (◌⊎◌.inr a) (◌⊎◌.inl b) = ◌⊎◌.inr (eqb-true _ _ b)
    by (◌⊎◌.inr a) (◌⊎◌.inr b) = absurd (clash (ap not (or_neither a b)) e)

pub within_default : (terms : Terms) → (terms.default ≡ default_length) ⊎ (terms.default ≡ former_default) → default_outside terms ≡ false
unfolding default_outside
within_default terms (◌⊎◌.inl a) = rw (eq-eqb _ _ a) refl
within_default terms (◌⊎◌.inr b) = ap not (or_second (eqb terms.default default_length) (eq-eqb _ _ b))

-- whatever is allowed is the length of a request
pub default_low : {terms : Terms} → Allowed terms → 1 ≤ terms.default
default_low h = ⊎_elim (λ e. omega arith) (λ e. omega arith) h.default_known

pub default_high : {terms : Terms} → Allowed terms → terms.default ≤ max_length
default_high h = ⊎_elim (λ e. omega arith) (λ e. omega arith) h.default_known

pub allowed_says : (terms : Terms) → allowed terms ≡ true → Allowed terms
unfolding allowed
allowed_says terms e =
    let tests = every_each _ e in
    let limit = limit_within terms (not-true _ tests.0) in
    let rule = rule_within terms (not-true _ tests.1.0) in
    record {
      limit_low = limit.0;
      limit_high = limit.1;
      rule_low = rule.0;
      rule_high = rule.1;
      default_known = default_within terms (not-true _ tests.1.1.0);
    }

pub says_allowed : (terms : Terms) → Allowed terms → allowed terms ≡ true
unfolding allowed
says_allowed terms h =
    each_every _ (
      ap not (within_limit terms h.limit_low h.limit_high),
      (ap not (within_rule terms h.rule_low h.rule_high), (ap not (within_default terms h.default_known), tt)),
    )
