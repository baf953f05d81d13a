-- Table and account side by side, row by row, but for the fractions: who is present, who is going, the weights and the requests. From that and
-- the true sums of the table, W is the same in both. It is kept by setting a row in both and by giving every entry a gain.
use mathlib.Core.Bool.{false}
use mathlib.Core.List.{List, [], ◌∷◌}
use mathlib.Core.Path.{◌≡◌, refl, ◌∙◌}
use Prim.Native.Nat.{ℕ, zero, suc, ◌+◌, ◌*◌, ◌≤◌, ◌<◌}
use native.Mathlib.Decide.{ℕ_discrete}
use native.Mathlib.Omega.{arith}
use lib.ListN.{length, get_or, set, length-set, length-map, get_or-map}
use lib.Seq.{get_or-set_same, get_or-set_other}
use Rattle.laws.specs.Lists.{sum_of}
use Rattle.laws.proofs.Sums.{sum_at}
use Rattle.laws.proofs.Tests.{clash}
use Rattle.rows.specs.declared.Request.{Request}
use Rattle.rows.specs.declared.Row.{Row}
use Rattle.rows.specs.declared.State.{State}
use Rattle.rows.specs.declared.State.TheVariants.{Free, Going, Asking}
use Rattle.rows.specs.Numbers.{queues}
use Rattle.rows.specs.Row.{blank, is_free, is_going, weight_in as weight_of_row, moment_in as moment_of_row}
use Rattle.head.specs.Head.{summed}
use Rattle.rows.proofs.Shares.{moment_is}
use Rattle.share.specs.declared.Table.{Table}
use Rattle.share.specs.Table.{row, true_total, true_sum, placed, TrueSums}
use Rattle.share.proofs.Placed.{placed_length, placed_same, placed_other, placed_true}
use Rattle.fractions.specs.Fraction.{Fraction}
use Rattle.account.specs.Account.{Entry, absent, present, is_absent, weight_of, weight_in, credited, gaining, all_gain}
use Rattle.account.specs.Account as Acc

-- an asking row's request, as the account has it from the lengths in the run
pub record SameRequest (length served next longest : ℕ) (q : Request) : Type 0 where
  pub same_length : q.length ≡ length
  pub same_served : q.served ≡ served
  pub same_next : q.next ≡ next
  pub no_longer : length ≤ longest

abbrev pub SameRequestAs : (length served next longest : ℕ) → State → Type 0
SameRequestAs length served next longest Free = Unit {0}
SameRequestAs length served next longest Going = Unit {0}
SameRequestAs length served next longest (Asking q) = SameRequest length served next longest q

abbrev pub Requested : Entry → State → Type 0
Requested absent s = Unit {0}
Requested (present e) s = SameRequestAs e.length e.served e.next e.longest s

pub record Alike (r : Row) (e : Entry) : Type 0 where
  pub free : is_free r.state ≡ is_absent e
  pub going : is_going r.state ≡ Acc.is_going e
  pub weight : weight_of_row r ≡ weight_of e
  pub weighs : is_free r.state ≡ false → 1 ≤ weight_of_row r
  pub request : Requested e r.state

pub record Match (t : Table) (es : List Entry) : Type 0 where
  pub rows_each : length t.rows ≡ queues
  pub entries_each : length es ≡ queues
  pub sums : TrueSums t
  pub alike : (j : ℕ) → Alike (row t j) (get_or es j absent)

-- equal parts, equal sums
same_sums {ℓ κ} : {A : Type ℓ} {B : Type κ} (f : A → ℕ) (g : B → ℕ) (xs : List A) (ys : List B) (d : A) (e : B) → length xs ≡ length ys → ((j : ℕ) → f (get_or xs j d) ≡ g (get_or ys j e)) → sum_of f xs ≡ sum_of g ys
same_sums f g [] [] d e l h = refl
same_sums f g [] (y ∷ ys) d e l h = absurd (omega arith)
same_sums f g (x ∷ xs) [] d e l h = absurd (omega arith)
same_sums f g (x ∷ xs) (y ∷ ys) d e l h = omega (arith, h zero, same_sums f g xs ys d e (omega arith) (λ j. h (suc j)))

pub same_weight : {t : Table} {es : List Entry} → Match t es → weight_in es ≡ t.head.total
unfolding weight_in true_total row
same_weight {t} {es} m =
    let same = same_sums weight_of_row weight_of t.rows es blank absent (omega (arith, m.rows_each, m.entries_each)) (λ j. (m.alike j).weight) in
    omega (arith, m.sums.total_true, same)

pub placed_terms : (t : Table) (i : ℕ) (r : Row) → (placed t i r).head.terms ≡ t.head.terms
unfolding placed summed
placed_terms t i r = refl

-- what setting a row does to W and A, with nothing cut off
module _ (t : Table) (i : ℕ) (r : Row) (sums : TrueSums t) (inside : i < length t.rows) where
  pub placed_total : (placed t i r).head.total + weight_of_row (row t i) ≡ t.head.total + weight_of_row r
  unfolding placed summed row true_total
  placed_total = omega (arith, sums.total_true, sum_at weight_of_row t.rows i blank inside)

  pub placed_sum : (placed t i r).head.sum + weight_of_row (row t i) * (row t i).position ≡ t.head.sum + weight_of_row r * r.position
  unfolding placed summed row true_sum
  placed_sum =
      omega (arith, sums.sum_true, sum_at moment_of_row t.rows i blank inside, moment_is r, moment_is (get_or t.rows i blank))

-- what holds of a pair of rows set in both, and of all pairs before, holds of all pairs after
module _ (P : Row → Entry → Type 0) (t : Table) (es : List Entry) (i : ℕ) (r : Row) (e : Entry) (inside : i < length t.rows) (within : i < length es) where
  pub set_both : P r e → ((j : ℕ) → P (row t j) (get_or es j absent)) → (j : ℕ) → P (row (placed t i r) j) (get_or (set es i e) j absent)
  set_both new old j = by (ℕ_discrete j i)
    where
      by : Dec (j ≡ i) → P (row (placed t i r) j) (get_or (set es i e) j absent)
      by (yes at) = rw (at, placed_same t i r inside, get_or-set_same es i e absent within) new
      by (no apart) = rw (placed_other t i r j apart, get_or-set_other es i j e absent apart) (old j)

pub match_set : (t : Table) (es : List Entry) (i : ℕ) (r : Row) (e : Entry) → i < queues → Alike r e → Match t es → Match (placed t i r) (set es i e)
match_set t es i r e inside new m =
    let here : i < length t.rows = omega (arith, m.rows_each) in
    let there : i < length es = omega (arith, m.entries_each) in
    record {
      rows_each = placed_length t i r ∙ m.rows_each;
      entries_each = length-set es i e ∙ m.entries_each;
      sums = placed_true t i r here m.sums;
      alike = set_both Alike t es i r e here there new m.alike;
    }

pub gain_at : (f : Fraction) (n : ℕ) (es : List Entry) (j : ℕ) → get_or (all_gain f n es) j absent ≡ gaining f n (get_or es j absent)
unfolding all_gain gaining
gain_at f n es j = get_or-map (gaining f n) es j absent

pub credited_alike : (r : Row) (e : Entry) (f : Fraction) → Alike r e → Alike r (credited e f)
credited_alike r absent f h = h
credited_alike r (present q) f h =
    record { free = h.free; going = h.going; weight = h.weight; weighs = h.weighs; request = h.request }

pub match_gain : (f : Fraction) (n : ℕ) {t : Table} {es : List Entry} → Match t es → Match t (all_gain f n es)
unfolding gaining all_gain
match_gain f n {t} {es} m =
    record {
      rows_each = m.rows_each;
      entries_each = length-map es (gaining f n) ∙ m.entries_each;
      sums = m.sums;
      alike = λ j. rw (gain_at f n es j) (credited_alike (row t j) (get_or es j absent) _ (m.alike j));
    }

pub blank_alike : Alike blank absent
unfolding weight_of_row
blank_alike = record { free = refl; going = refl; weight = refl; weighs = λ h. absurd (clash refl h); request = tt }
