-- A row of the table and an entry of the account that say the same of a queue.
use Rattle.std.specs.Prelude.{◌≡◌}
use Rattle.rows.specs.declared.Row.{Row}
use Rattle.rows.specs.Row.{is_free, is_going, is_asking, weight_in}
use Rattle.account.specs.Account.{Entry, is_absent, weight_of}
use Rattle.account.specs.Account as Acc

pub record Agrees (r : Row) (e : Entry) : Type 0 where
  pub free : is_free r.state ≡ is_absent e
  pub going : is_going r.state ≡ Acc.is_going e
  pub asking : is_asking r.state ≡ Acc.is_asking e
  -- its part in W, which is its weight unless it is free
  pub weight : weight_in r ≡ weight_of e
