-- Which name an address has.
-- Source: own choice; that addresses are signed and the lowest is #80000000 says the Compiler Writer's Guide (1988).
use Rattle.std.specs.Prelude.{ℕ, ◌-◌, Bool, ◌&&◌, ◌||◌, not, nat_le, List, Option, find, option_map}
use Rattle.std.specs.List.{list_all}
use Rattle.tword.specs.Words.{most_neg, minus}
use Rattle.tnames.specs.declared.names.Name.{Name}

-- where an address lies in the memory: how far above the lowest address
abbrev pub place_of : ℕ → ℕ
place_of address = minus address most_neg

-- a name stands at an address or below it
abbrev pub is_reached : ℕ → Name → Bool
is_reached address n = nat_le (place_of n.address) (place_of address)

-- no name that stands at an address or below it stands above this one
abbrev pub is_highest : List Name → ℕ → Name → Bool
is_highest names address n =
    list_all (λ m. not (is_reached address m) || nat_le (place_of m.address) (place_of n.address)) names

-- the first name that stands at an address or below it and as high as any of these
abbrev pub nearest : List Name → ℕ → Option Name
nearest names address = find (λ n. is_reached address n && is_highest names address n) names

-- how far an address lies above another
abbrev pub distance : ℕ → ℕ → ℕ
distance from address = place_of address - place_of from

-- the name that an address has, and how far the address lies above it
abbrev pub name_at : List Name → ℕ → Option (List ℕ × ℕ)
name_at names address = option_map (λ n. (n.text, distance n.address address)) (nearest names address)
