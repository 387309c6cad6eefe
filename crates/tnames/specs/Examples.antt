-- Rows that the definitions compute.
use Rattle.std.specs.Prelude.{◌≡◌, List, [], ◌∷◌, ◌++◌, Ok, Err, Some, None, refl, codes}
use Rattle.std.specs.Fmt.{digits}
use Rattle.hex.specs.Hex.{decode_pairs}
use Rattle.tnames.specs.declared.names.Name.{Name}
use Rattle.tnames.specs.Names.{name_at}
use Rattle.tnames.specs.Lines.{name_of, names_of}
use Rattle.tnames.specs.declared.nodes.NodeNames.{NodeNames}
use Rattle.tnames.specs.Texts.{in_memory, named_text, label_text}
use Rattle.tnames.specs.Listings.{labelled_text}
use Rattle.tnames.specs.Nodes.{text_of_node}

abbrev four : List Name
four =
    record { address = 0x8000_00f0; text = codes "got" } ∷ record { address = 0x8000_0100; text = codes "loop" }
    ∷ record { address = 0x8000_00f0; text = codes "again" } ∷ record { address = 0x10; text = codes "high" } ∷ []

-- the nearest below; of two at one address the first
at_an_offset : name_at four 0x8000_00f8 ≡ Some (codes "got", 8)
at_an_offset = refl

at_its_address : name_at four 0x8000_0100 ≡ Some (codes "loop", 0)
at_its_address = refl

-- all names lie above
below_all : name_at four 0x8000_00ef ≡ None
below_all = refl

-- #00000010 lies above #80000100, and #0000000f below it, though not as a number without a sign
above_zero : name_at four 0x1f ≡ Some (codes "high", 15)
above_zero = refl

across_zero : name_at four 0xf ≡ Some (codes "loop", 0x7fff_ff0f)
across_zero = refl

a_line : name_of (codes "800000f0 got") ≡ Some (record { address = 0x8000_00f0; text = codes "got" })
unfolding decode_pairs
a_line = refl

upper_case : name_of (codes "800000F0 G!~") ≡ Some (record { address = 0x8000_00f0; text = codes "G!~" })
unfolding decode_pairs
upper_case = refl

seven_digits : name_of (codes "80000f0 got") ≡ None
unfolding decode_pairs
seven_digits = refl

without_a_name : name_of (codes "800000f0 ") ≡ None
unfolding decode_pairs
without_a_name = refl

two_words : name_of (codes "800000f0 got it") ≡ None
unfolding decode_pairs
two_words = refl

a_file : names_of (codes "800000f0 got" ++ 10 ∷ (codes "00000010 high" ++ 10 ∷ []))
    ≡ Ok (record { address = 0x8000_00f0; text = codes "got" } ∷ record { address = 0x10; text = codes "high" } ∷ [])
unfolding decode_pairs
a_file = refl

a_bad_line : names_of (codes "800000f0 got" ++ 10 ∷ (codes "high" ++ 10 ∷ [])) ≡ Err 2
unfolding decode_pairs
a_bad_line = refl

an_open_line : names_of (codes "800000f0 got") ≡ Err 1
unfolding decode_pairs
an_open_line = refl

a_text : named_text four (codes "Iptr #800000f8, Wptr #80000100; #80000008 #800000F8")
    ≡ codes "Iptr #800000f8 got+8, Wptr #80000100 loop; #80000008 #800000F8"
unfolding named_text decode_pairs digits
a_text = refl

-- the last address of the largest memory, and the first behind it
in_the_largest : in_memory (Some 0x80ff_ffff) ≡ Some 0x80ff_ffff
in_the_largest = refl

behind_the_largest : in_memory (Some 0x8100_0000) ≡ None
behind_the_largest = refl

below_the_lowest : in_memory (Some 0x7fff_ffff) ≡ None
below_the_lowest = refl

-- a number is no address, though a name stands below it
a_number : named_text four (codes "A #00000017 B #80000100")
    ≡ codes "A #00000017 B #80000100 loop"
unfolding named_text decode_pairs digits
a_number = refl

a_dump : named_text four (codes "800000f0: 2a 00 00 00") ≡ codes "800000f0: 2a 00 00 00"
unfolding named_text decode_pairs digits
a_dump = refl

a_label : label_text (name_at four 0x8000_00f0) ≡ codes "got:" ++ 10 ∷ []
a_label = refl

a_listing : labelled_text four (codes "800000f0: ldc 4" ++ 10 ∷ (codes "800000f1: j 0" ++ 10 ∷ (codes "80000100: in")))
    ≡ codes "got:" ++ 10 ∷ (codes "800000f0: ldc 4" ++ 10 ∷ (codes "800000f1: j 0" ++ 10 ∷ (codes "80000100: in")))
unfolding decode_pairs
a_listing = refl

abbrev of_two_nodes : List NodeNames
of_two_nodes =
    record { node = Some 1; names = record { address = 0x8000_00f0; text = codes "mine" } ∷ [] }
    ∷ record { node = None; names = four } ∷ []

-- names of its own come first; any other node has those of each
of_its_own : text_of_node of_two_nodes 1 (codes "#800000f4") ≡ codes "#800000f4 mine+4"
unfolding named_text decode_pairs digits
of_its_own = refl

of_each : text_of_node of_two_nodes 0 (codes "#800000f4") ≡ codes "#800000f4 got+4"
unfolding named_text decode_pairs digits
of_each = refl

without_names : text_of_node [] 0 (codes "#800000f4") ≡ codes "#800000f4"
without_names = refl

no_label : label_text (name_at four 0x8000_00f1) ≡ []
no_label = refl
