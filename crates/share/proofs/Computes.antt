-- All that a step and a lag are made of, under one name, so that a proof by computation unfolds that name and not ninety.
use Rattle.laws.specs.Difference.{◌⊖◌}
use Rattle.laws.specs.Lists.{every}
use Rattle.rows.specs.Numbers.{length_meant, step_of}
use Rattle.rows.specs.Order.{goes_before, bid_of, bid}
use Rattle.rows.specs.Orderly.{in_range, orderly_request, orderly_row, outside, fits_ceiling, limit_outside, rule_outside, default_outside, allowed, slice_most, slice_least}
use Rattle.rows.specs.Requests.{opened, entering, row_next_set, served_to, charged}
use Rattle.rows.specs.Row.{position_of, deadline_of, charged_to, weight_in, moment_in}
use Rattle.rows.specs.Virtual.{standing_at, reached, eligible_at, ready_at}
use Rattle.head.specs.declared.Event.{Event}
use Rattle.head.specs.Head.{is_empty, entry, summed, sliced, empty_head}
use Rattle.head.specs.Lag.{lag_of, lag_unit}
use Rattle.head.specs.Refusals.{queue_outside, length_outside, not_holder, row_taken, not_asking, lag_below, ceiling_passed, ticks_outside, checks_for}
use Rattle.head.specs.Rest.{rest_after, orderly_rest}
use Rattle.head.specs.Slice.{slice_for, orderly_holder}
use Rattle.share.specs.declared.Reply.{Reply}
use Rattle.share.specs.declared.Table.{Table}
use Rattle.share.specs.Calls.{call, step, checks_of}
use Rattle.share.specs.Choice.{eligible, deadline, precedes, choice}
use Rattle.share.specs.Events.{empty_table, joined, leaving, left, reweighted, length_set, chosen, slice_given, granted, returned}
use Rattle.share.specs.LagList.{lags_into}
use Rattle.share.specs.Release.{freed, released}
use Rattle.share.specs.Sound.{orderly, ready, calm, sound}
use Rattle.share.specs.Table.{row, true_total, true_sum, placed, with_slice}

unfoldable pub stepping : Table → Event → Reply
unfolding every ◌⊖◌ length_meant step_of position_of deadline_of charged_to weight_in moment_in standing_at reached ready_at eligible_at outside in_range orderly_request orderly_row fits_ceiling slice_most slice_least limit_outside rule_outside default_outside allowed opened entering row_next_set served_to charged bid_of bid goes_before empty_head is_empty entry sliced summed rest_after orderly_rest orderly_holder slice_for lag_of lag_unit queue_outside length_outside not_holder row_taken not_asking lag_below ticks_outside ceiling_passed checks_for row true_total true_sum placed with_slice orderly ready calm sound lags_into freed released eligible deadline precedes choice empty_table joined leaving left reweighted length_set chosen slice_given granted returned call checks_of step
stepping t e = step t e
