use Rattle.std.proofs.Common.{◌≡◌, ◌<◌, ℕ, Some}
use Rattle.std.specs.Prelude.{slice_get}
use Rattle.tcertify.specs.declared.channel.Channel.{Channel}
use Rattle.tcertify.proofs.channel_table.Channels.searched.Given as goal

abbrev pub invariant-loop-number : goal.invariant-loop-number
invariant-loop-number l =
    (i : ℕ) (x : Channel) → i < l.number → slice_get l.self.items.items i ≡ Some x → x.address ≡ l.address → ⊥
