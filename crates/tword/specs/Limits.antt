-- How much there may be of what: of memories, images, nets, scripts, rounds and files.
-- Source: own choice.
use Rattle.std.specs.Prelude.{ℕ, Bool, ◌||◌, nat_lt, List, length}
use Rattle.tword.specs.declared.kind.Kind.{Kind}
use Rattle.tword.specs.declared.kind.Kind.TheVariants.{One, Two}

-- the least number of bytes of a memory
abbrev pub smallest_memory : ℕ
smallest_memory = 2048

-- the greatest number of bytes of a memory of a kind
abbrev pub largest_memory : Kind → ℕ
largest_memory One = 1048576
largest_memory Two = 16777216

-- how many processes a node has at most, and an image
abbrev pub most_processes : ℕ
most_processes = 512

-- how many segments an image has at most
abbrev pub most_segments : ℕ
most_segments = 4096

-- how many nodes a net has at most, with its sources and sinks
abbrev pub most_nodes : ℕ
most_nodes = 64

-- how many wires a net has at most
abbrev pub most_wires : ℕ
most_wires = 128

-- how many workers share a net at most
abbrev pub most_workers : ℕ
most_workers = 64

-- how many steps a timeslice has at most
abbrev pub longest_timeslice : ℕ
longest_timeslice = 65536

-- how many Runs a slice of a round or turn has at most
abbrev pub longest_slice : ℕ
longest_slice = 65536

-- how many holds some rounds have at most
abbrev pub most_holds : ℕ
most_holds = 256

-- how many messages a source has at most
abbrev pub most_messages : ℕ
most_messages = 256

-- how many bytes a message of a source has at most
abbrev pub longest_message : ℕ
longest_message = 4096

-- how many bytes a sink takes at most
abbrev pub largest_capacity : ℕ
largest_capacity = 65536

-- how many bytes of a file are read at most
abbrev pub longest_file : ℕ
longest_file = 1073741824

-- a message is empty, or longer than a source may have it
abbrev pub is_bad_message : List ℕ → Bool
is_bad_message m = nat_lt (length m) 1 || nat_lt longest_message (length m)
