-- Release frees exactly the going rows that V comes to reach. V only rises while rows are freed, so a row freed on the way is reached at the end;
-- and a going row that stays is not, since the release ends calm.
use mathlib.Core.Bool.{true}
use mathlib.Core.Logic.{◌⊎◌, ⊎_elim, ◌↔◌}
use mathlib.Core.Path.{◌≡◌, refl, ap, subst, subst⁻¹}
use Prim.Native.Nat.{ℕ}
use native.Mathlib.Decide.{ℕ_discrete}
use Rattle.laws.proofs.Means.{still_reached}
use Rattle.laws.proofs.Tests.{clash}
use Rattle.rows.specs.declared.Row.{Row}
use Rattle.rows.specs.Row.{blank, is_free, is_going}
use Rattle.rows.proofs.Shares.{going_not_free}
use Rattle.share.specs.declared.Table.{Table}
use Rattle.share.specs.Release.{freed, Frees, done, one, released}
use Rattle.share.specs.Sound.{Ready}
use Rattle.share.specs.Table.{row, AtMostV}
use Rattle.share.proofs.Keeps.{frees_calm}
use Rattle.share.proofs.Release.{freed_total, freed_sum, freed_same, freed_other, ready_weight, ready_moment, released_frees}

-- V does not fall below a position it has reached
still_level : (t : Table) (i p : ℕ) → Ready t i → AtMostV t p → AtMostV (freed t i) p
still_level t i p r level =
    rw (freed_total t i, freed_sum t i, ready_weight t i r, ready_moment t i r)
    (still_reached p (row t i).position (row t i).weight t.head.total t.head.sum r.level level)

pub frees_level : {t u : Table} (p : ℕ) → Frees t u → AtMostV t p → AtMostV u p
frees_level p (done calm) level = level
frees_level {t} p (one i r rest) level = frees_level p rest (still_level t i p r level)

freed_blank : (t : Table) (i j : ℕ) → row t j ≡ blank → Dec (j ≡ i) → row (freed t i) j ≡ blank
freed_blank t i j e (yes same) = subst⁻¹ (λ (k : ℕ). row (freed t i) k ≡ blank) same (freed_same t i)
freed_blank t i j e (no apart) = rw (freed_other t i j apart) e

stays_blank : {t u : Table} (j : ℕ) → Frees t u → row t j ≡ blank → row u j ≡ blank
stays_blank j (done calm) e = e
stays_blank {t} j (one i r rest) e = stays_blank j rest (freed_blank t i j e (ℕ_discrete j i))

-- what becomes of a going row: it stays, or it is freed and V has reached where it stood
abbrev pub Becomes : Table → ℕ → Row → Type 0
Becomes u j r = (row u j ≡ r) ⊎ ((row u j ≡ blank) × AtMostV u r.position)

turn : {t u : Table} (i j : ℕ) → Ready t i → Frees (freed t i) u → Becomes u j (row (freed t i) j) → Dec (j ≡ i) → Becomes u j (row t j)
turn {t} {u} i j r rest later (yes e) =
    ◌⊎◌.inr (
      stays_blank j rest (subst⁻¹ (λ (k : ℕ). row (freed t i) k ≡ blank) e (freed_same t i)),
      frees_level (row t j).position rest
          (still_level t i (row t j).position r (subst⁻¹ (λ (k : ℕ). AtMostV t (row t k).position) e r.level)),
    )
turn {t} {u} i j r rest later (no apart) = subst (Becomes u j) (freed_other t i j apart) later

pub becomes : {t u : Table} (j : ℕ) → Frees t u → Becomes u j (row t j)
becomes j (done calm) = ◌⊎◌.inl refl
becomes j (one i r rest) = turn i j r rest (becomes j rest) (ℕ_discrete j i)

pub released_exactly : (t : Table) (j : ℕ) → is_going (row t j).state ≡ true → (is_free (row (released t) j).state ≡ true) ↔ AtMostV (released t) (row t j).position
released_exactly t j going =
    let way = released_frees t in (
      λ free. ⊎_elim (λ stays. absurd (clash (subst (λ (x : Row). is_free x.state ≡ true) stays free) (going_not_free (row t j).state going))) (λ out. out.1) (becomes j way),
      λ level. ⊎_elim
          (λ stays. absurd (frees_calm way j (record { going = rw stays going; level = rw stays level })))
          (λ out. ap (λ (x : Row). is_free x.state) out.0)
          (becomes j way),
    )
