use Rattle.std.proofs.Common.{◌≡◌, ℕ, ◌+◌, ◌-◌, ◌*◌, ◌/◌, ◌^◌, ◌<◌, ◌≤◌, get_or}
use Rattle.bits.specs.Bits.{bit, val}
use Rattle.writer.proofs.fields.put.Given as goal

abbrev pub invariant-loop-i : goal.invariant-loop-i
invariant-loop-i l =
    (val l.out l.at l.i ≡ l.value / 2 ^ (l.width - l.i))
    × ((j : ℕ) → j < l.at → bit l.out j ≡ bit l.initial.out j)
    × ((j : ℕ) → l.at + l.i ≤ j → bit l.out j ≡ bit l.initial.out j)
    × ((k : ℕ) → l.at + l.i ≤ 8 * k → get_or l.out k 0 ≡ get_or l.initial.out k 0)
