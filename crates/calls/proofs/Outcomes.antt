-- No second outcome: each public call's contract is one equation with a definition, so two outcomes that fit it are equal. For every call and all
-- inputs, refused ones too, this names the answer, the table and the list.
use mathlib.Core.Bool.{Bool}
use mathlib.Core.List.{List}
use mathlib.Core.Path.{◌≡◌, sym, ◌∙◌}
use Prim.Native.Nat.{ℕ}
use lib.IntN.{ℤ}
use Rattle.rows.specs.declared.Terms.{Terms}
use Rattle.head.specs.declared.Event.{Event}
use Rattle.share.specs.declared.Reply.{Reply}
use Rattle.share.specs.declared.Table.{Table}
use Rattle.share.specs.Calls.{fresh_reply, join_reply, leave_reply, release_reply, reweight_reply, length_reply, grant_reply, return_reply, lag_reply, lag_list, standing_reply, step}

one_outcome : {A : Type 0} {x y z : A} → x ≡ z → y ≡ z → x ≡ y
one_outcome p q = p ∙ sym q

module _ (r s : Reply) where
  pub fresh_once : (terms : Terms) → r ≡ fresh_reply terms → s ≡ fresh_reply terms → r ≡ s
  fresh_once terms = one_outcome

  module _ (t : Table) where
    pub join_once : (queue weight length : ℕ) → r ≡ join_reply t queue weight length → s ≡ join_reply t queue weight length → r ≡ s
    join_once queue weight length = one_outcome

    pub leave_once : (queue : ℕ) → r ≡ leave_reply t queue → s ≡ leave_reply t queue → r ≡ s
    leave_once queue = one_outcome

    pub release_once : r ≡ release_reply t → s ≡ release_reply t → r ≡ s
    release_once = one_outcome

    pub reweight_once : (queue weight length : ℕ) → r ≡ reweight_reply t queue weight length → s ≡ reweight_reply t queue weight length → r ≡ s
    reweight_once queue weight length = one_outcome

    pub length_once : (queue length : ℕ) → r ≡ length_reply t queue length → s ≡ length_reply t queue length → r ≡ s
    length_once queue length = one_outcome

    pub grant_once : r ≡ grant_reply t → s ≡ grant_reply t → r ≡ s
    grant_once = one_outcome

    pub return_once : (queue used : ℕ) (early : Bool) → r ≡ return_reply t queue used early → s ≡ return_reply t queue used early → r ≡ s
    return_once queue used early = one_outcome

    pub standing_once : (queue : ℕ) → r ≡ standing_reply t queue → s ≡ standing_reply t queue → r ≡ s
    standing_once queue = one_outcome

    pub apply_once : (e : Event) → r ≡ step t e → s ≡ step t e → r ≡ s
    apply_once e = one_outcome

    -- the report has two outcomes to fix: the reply and the list
    pub lags_once : (given a b : List ℤ) → r ≡ lag_reply t given → s ≡ lag_reply t given → a ≡ lag_list t given → b ≡ lag_list t given → (r ≡ s) × (a ≡ b)
    lags_once given a b p q u v = (one_outcome p q, one_outcome u v)
