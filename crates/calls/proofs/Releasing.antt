-- What a release leaves alone: every row that is not going, the slice and the terms; and which going rows it frees.
use mathlib.Core.Bool.{true, false}
use mathlib.Core.Path.{◌≡◌, refl, ap, sym, subst, subst⁻¹, ◌∙◌}
use mathlib.Core.Logic.{⊎_elim, ◌≢◌}
use Prim.Native.Nat.{ℕ, ◌<◌}
use native.Mathlib.Decide.{ℕ_discrete}
use lib.ListN.{length}
use Rattle.laws.proofs.Tests.{clash}
use Rattle.rows.specs.declared.Row.{Row}
use Rattle.rows.specs.Row.{is_going}
use Rattle.head.specs.Head.{summed}
use Rattle.share.specs.declared.Table.{Table}
use Rattle.share.specs.Release.{freed, Frees, done, one, released}
use Rattle.share.specs.Sound.{Ready, Calm}
use Rattle.share.specs.Table.{row, placed, AtMostV}
use Rattle.share.proofs.Placed.{placed_same, placed_other}
use Rattle.share.proofs.Release.{freed_other, released_frees}
use Rattle.share.proofs.Keeps.{frees_calm}
use Rattle.calls.specs.Meaning.{SameSlice, ReleaseFollows}
use Rattle.calls.proofs.Exactly.{Becomes, becomes}

-- a release frees going rows only: every other row stays
freed_leaves : (t : Table) (i j : ℕ) → Ready t i → is_going (row t j).state ≡ false → Dec (j ≡ i) → row (freed t i) j ≡ row t j
freed_leaves t i j r stays (yes e) = absurd (clash (subst⁻¹ (λ (k : ℕ). is_going (row t k).state ≡ true) e r.going) stays)
freed_leaves t i j r stays (no apart) = freed_other t i j apart

pub frees_leaves : {t u : Table} (j : ℕ) → Frees t u → is_going (row t j).state ≡ false → row u j ≡ row t j
frees_leaves j (done calm) stays = refl
frees_leaves {t} j (one i r rest) stays =
    let same = freed_leaves t i j r stays (ℕ_discrete j i) in
    frees_leaves j rest (subst⁻¹ (λ (x : Row). is_going x.state ≡ false) same stays) ∙ same

-- and it changes neither the slice nor the terms
pub frees_slice : {t u : Table} → Frees t u → SameSlice t u
unfolding freed placed summed
frees_slice (done calm) = record { out_same = refl; holder_same = refl; ticks_same = refl }
frees_slice (one i r rest) = let s = frees_slice rest in record { out_same = s.out_same; holder_same = s.holder_same; ticks_same = s.ticks_same }

pub frees_terms : {t u : Table} → Frees t u → u.head.terms ≡ t.head.terms
unfolding freed placed summed
frees_terms (done calm) = refl
frees_terms (one i r rest) = frees_terms rest

-- a going row that V has reached would be ready
still_ready : (u : Table) (i : ℕ) (r : Row) → Calm u → row u i ≡ r → is_going r.state ≡ true → AtMostV u r.position → ⊥
still_ready u i r calm stays going level =
    calm i
    (record {
      going = subst⁻¹ (λ (x : Row). is_going x.state ≡ true) stays going;
      level = subst⁻¹ (λ (x : Row). AtMostV u x.position) stays level;
    })

-- a row put in place, and the release after it
module _ (t : Table) (queue : ℕ) (r : Row) where
  pub put_row : queue < length t.rows → is_going r.state ≡ false → row (released (placed t queue r)) queue ≡ r
  put_row inside stays =
      let same = placed_same t queue r inside in
      frees_leaves queue (released_frees (placed t queue r)) (subst⁻¹ (λ (x : Row). is_going x.state ≡ false) same stays) ∙ same

  pub put_slice : SameSlice t (released (placed t queue r))
  unfolding placed summed
  put_slice = let s = frees_slice (released_frees (placed t queue r)) in record { out_same = s.out_same; holder_same = s.holder_same; ticks_same = s.ticks_same }

  pub put_terms : (released (placed t queue r)).head.terms ≡ t.head.terms
  unfolding placed summed
  put_terms = frees_terms (released_frees (placed t queue r))

  -- the going rows that V comes to reach are freed, the others stay
  pub put_release : ReleaseFollows t (released (placed t queue r)) queue
  put_release =
      let u : Table = released (placed t queue r) in
      let way = released_frees (placed t queue r) in
      let same : (i : ℕ) → i ≢ queue → row (placed t queue r) i ≡ row t i = λ i apart. placed_other t queue r i apart in
      let becomes_of : (i : ℕ) → i ≢ queue → Becomes u i (row t i) = λ i apart. subst (Becomes u i) (same i apart) (becomes i way) in
      record {
        others_same = λ i apart stays. frees_leaves i way (subst⁻¹ (λ (x : Row). is_going x.state ≡ false) (same i apart) stays) ∙ same i apart;
        freed_exactly = λ i apart going. (
          λ free. ⊎_elim (λ stays. absurd (clash going (ap (λ (x : Row). is_going x.state) (sym stays ∙ free)))) (λ out. out.1) (becomes_of i apart),
          λ level. ⊎_elim (λ stays. absurd (still_ready u i (row t i) (frees_calm way) stays going level)) (λ out. out.0) (becomes_of i apart),
        );
        waits = λ i apart going far. ⊎_elim (λ stays. stays) (λ out. absurd (far out.1)) (becomes_of i apart);
        none_left = frees_calm way;
      }
