-- `Table::lags_told`: the list is written only where the table is sound and the list long enough.
use mathlib.Core.Path.{sym, ◌∙◌}
use borrow.Author.Tests.{not-false, ltb-false}
use Rattle.head.proofs.Verdicts.{not_applies}
use Rattle.share.proofs.Sound.{sound_says}
use Rattle.share.proofs.Table.lags_told.Goals as goal

pub write_lags-requires : goal.write_lags-requires
write_lags-requires c =
    let is_told = not-false _ (not_applies _ _ (sym c.when.ensures ∙ c.in_ok-when.was)) in (
      (sound_says c.args.self.now (sym c.is_sound.ensures ∙ is_told)).orderly_table,
      ltb-false _ _ (not_applies _ _ (sym c.when-2.ensures ∙ c.in_ok-when-2.was)),
    )
