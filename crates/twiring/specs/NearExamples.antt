-- Keys that are near to each other, and keys that are not, as the definitions compute.
use Rattle.std.specs.Prelude.{◌≡◌, List, [], ◌∷◌, Some, None, refl, true, false, codes}
use Rattle.twiring.specs.NearKeys.{near_name}
use Rattle.twiring.specs.Wirings.{hold_keys, node_keys, sink_keys, wire_keys}

-- one is the beginning of the other
cut_short : near_name (codes "mem") (node_keys true) ≡ Some (codes "memory")
unfolding near_name
cut_short = refl

goes_on : near_name (codes "ends") hold_keys ≡ Some (codes "end")
unfolding near_name
goes_on = refl

-- a letter is put in, left out or changed, or two neighbours are swapped
put_in : near_name (codes "memmory") (node_keys true) ≡ Some (codes "memory")
unfolding near_name
put_in = refl

left_out : near_name (codes "capacty") sink_keys ≡ Some (codes "capacity")
unfolding near_name
left_out = refl

changed : near_name (codes "Memory") (node_keys true) ≡ Some (codes "memory")
unfolding near_name
changed = refl

swapped : near_name (codes "form") hold_keys ≡ Some (codes "from")
unfolding near_name
swapped = refl

-- of two that are near the first
first_of_two : near_name (codes "kend") hold_keys ≡ Some (codes "end")
unfolding near_name
first_of_two = refl

-- two letters are changed
too_far : near_name (codes "mamary") (node_keys true) ≡ None
unfolding near_name
too_far = refl

-- a name of one letter is near to none
one_letter : near_name (codes "c") wire_keys ≡ None
unfolding near_name
one_letter = refl

one_letter_more : near_name (codes "ab") wire_keys ≡ None
unfolding near_name
one_letter_more = refl

-- under version 1 a node has no kind
not_at_first : near_name (codes "kin") (node_keys true) ≡ None
unfolding near_name
not_at_first = refl

but_at_second : near_name (codes "kin") (node_keys false) ≡ Some (codes "kind")
unfolding near_name
but_at_second = refl
