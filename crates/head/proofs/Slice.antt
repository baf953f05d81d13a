-- The slice that is out is decided by its test: for each notion of specs/Slice a law from the test to the record and one back.
use mathlib.Core.Path.{◌≡◌, refl}
use mathlib.Core.Bool.{Bool, true, false}
use Prim.Native.Nat.{ℕ}
use borrow.Author.Tests.{le-leb, leb-true, eq-eqb, eqb-true, lt-ltb, ltb-true}
use Rattle.laws.proofs.Tests.{clash, every_each, each_every}
use Rattle.rows.specs.declared.Request.{Request}
use Rattle.rows.specs.declared.Row.{Row}
use Rattle.rows.specs.declared.State.{State}
use Rattle.rows.specs.declared.State.TheVariants.{Free, Going, Asking}
use Rattle.rows.proofs.Orderly.{fits_says, says_fits}
use Rattle.rows.proofs.Virtual.{reached_yes, yes_reached}
use Rattle.head.specs.declared.Head.{Head}
use Rattle.head.specs.Slice.{OrderlyHolder, orderly_holder, HeldBy, held_by, OrderlySlice, orderly_slice}

pub orderly_holder_lem : (h : Head) (w : ℕ) (q : Request) → orderly_holder h w q ≡ true → OrderlyHolder h w q
unfolding orderly_holder
orderly_holder_lem h w q e =
    let t = every_each _ e in
    record {
      opened = reached_yes _ _ _ t.0;
      deadline_high = fits_says w q t.1.0;
      slice_low = leb-true _ _ t.1.1.0;
      slice_high = leb-true _ _ t.1.1.1.0;
    }

pub holder_orderly : (h : Head) {w : ℕ} {q : Request} → OrderlyHolder h w q → orderly_holder h w q ≡ true
unfolding orderly_holder
holder_orderly h {w} {q} o =
    each_every _ (yes_reached _ _ _ o.opened, (says_fits w q o.deadline_high, (le-leb _ _ o.slice_low, (le-leb _ _ o.slice_high, tt))))

held_by_lem : (h : Head) (s : State) (w : ℕ) → held_by h s w ≡ true → HeldBy h s w
held_by_lem h Free w e = clash e refl
held_by_lem h Going w e = clash e refl
held_by_lem h (Asking q) w e = orderly_holder_lem h w q e

by_held : (h : Head) (s : State) (w : ℕ) → HeldBy h s w → held_by h s w ≡ true
by_held h Free w o = absurd o
by_held h Going w o = absurd o
by_held h (Asking q) w o = holder_orderly h o

pub orderly_slice_lem : (h : Head) (out : Bool) (r : Row) → orderly_slice h out r ≡ true → OrderlySlice h out r
orderly_slice_lem h true r e = let t = every_each _ e in (ltb-true _ _ t.0, held_by_lem h r.state r.weight t.1.0)
orderly_slice_lem h false r e = let t = every_each _ e in (eqb-true _ _ t.0, eqb-true _ _ t.1.0)

pub slice_orderly : (h : Head) (out : Bool) (r : Row) → OrderlySlice h out r → orderly_slice h out r ≡ true
slice_orderly h true r o = each_every _ (lt-ltb _ _ o.0, (by_held h r.state r.weight o.1, tt))
slice_orderly h false r o = each_every _ (eq-eqb _ _ o.0, (eq-eqb _ _ o.1, tt))
