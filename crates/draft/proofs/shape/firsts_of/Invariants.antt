use Rattle.std.proofs.Common.{◌≡◌, ℕ, ◌≤◌, length, get_or, take, sum}
use Rattle.draft.proofs.shape.firsts_of.Given as goal

-- the first labels of the courses so far, and of the next
abbrev pub invariant-loop-i : goal.invariant-loop-i
invariant-loop-i l =
    (length l.firsts ≡ 25)
    × (l.labels ≡ sum (take l.i l.a))
    × ((k : ℕ) → k ≤ l.i → get_or l.firsts k 0 ≡ sum (take k l.a))
