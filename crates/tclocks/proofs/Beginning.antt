-- Steps that an agent begins one after another.
use Rattle.std.proofs.Common.{◌≡◌, ◌<◌, ◌+◌, ◌∙◌, ℕ, ap, arith, sym, List, length, slice_index, slice_set, []}
use Rattle.std.proofs.Common.{suc, zero}
use Rattle.std.proofs.lemmas.List.{get_or-set_same, set-get_or, set-set}
use Rattle.tclocks.specs.Checks.{Check, CountThemselves, begun, begun_times, clock_of}
use Rattle.tclocks.specs.Clocks.{raised, raised_by}

-- no step more
raised_by-none : (clock : List ℕ) (agent : ℕ) → raised_by clock agent 0 ≡ clock
raised_by-none clock agent =
    let none : slice_index clock agent + 0 ≡ slice_index clock agent = omega arith in
    ap (λ (n : ℕ). slice_set clock agent n) none ∙ set-get_or clock agent 0

-- one step more
raised-raised_by : (clock : List ℕ) (agent count : ℕ) → agent < length clock
    → raised (raised_by clock agent count) agent ≡ raised_by clock agent (suc count)
raised-raised_by clock agent count within =
    let first : slice_index (raised_by clock agent count) agent ≡ slice_index clock agent + count =
    get_or-set_same clock agent (slice_index clock agent + count) 0 within in
    let all : slice_index (raised_by clock agent count) agent + 1 ≡ slice_index clock agent + suc count =
    omega (arith, first) in
    set-set clock agent _ _ ∙ ap (λ (n : ℕ). slice_set clock agent n) all

-- so many steps raise the agent's own count by as many
pub begun_times-raised : (count agent : ℕ) (check : Check) → agent < length check.clocks
    → CountThemselves check.clocks → begun_times count agent check
    ≡ record check { clocks = slice_set check.clocks agent (raised_by (clock_of check agent) agent count) }
begun_times-raised zero agent check within each =
    ap (λ (clocks : List (List ℕ)). record check { clocks = clocks })
    (sym (ap (λ (clock : List ℕ). slice_set check.clocks agent clock) (raised_by-none (clock_of check agent) agent)
    ∙ set-get_or check.clocks agent []))
begun_times-raised (suc count) agent check within each =
    let clock = clock_of check agent in
    ap (λ (before : Check). begun agent before) (begun_times-raised count agent check within each)
    ∙ ap (λ (clocks : List (List ℕ)). record check { clocks = clocks })
    (set-set check.clocks agent (raised_by clock agent count) _
    ∙ ap (λ (c : List ℕ). slice_set check.clocks agent (raised c agent))
    (get_or-set_same check.clocks agent (raised_by clock agent count) [] within)
    ∙ ap (λ (c : List ℕ). slice_set check.clocks agent c)
    (raised-raised_by clock agent count (each agent within)))
