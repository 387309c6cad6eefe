-- What an image is printed as, instruction by instruction.
-- Source: own choice, a format of this program.
use Rattle.std.specs.Prelude.{ℕ, zero, suc, List, [], ◌∷◌, ◌++◌, flat_map, length, drop, Result, Ok, Err, codes}
use Rattle.std.specs.Int.{w32, to_be_bytes}
use Rattle.hex.specs.Hex.{encode_lower}
use Rattle.tword.specs.declared.kind.Kind.{Kind}
use Rattle.tword.specs.Words.{plus}
use Rattle.tcode.specs.declared.instruction.Instruction.{Instruction}
use Rattle.tcode.specs.declared.instruction.DecodeFault.{DecodeFault}
use Rattle.tcode.specs.Decoding.{decode_bytes}
use Rattle.tcode.specs.Texts.{instruction_text}
use Rattle.tplan.specs.declared.plan.Segment.{Segment}
use Rattle.tplan.specs.declared.plan.Image.{Image}
use Rattle.tfiles.specs.Logs.{line}

-- what stands at an address, with the address before it
abbrev pub at_address : ℕ → List ℕ → List ℕ
at_address address text = line (encode_lower (to_be_bytes w32 address) ++ (codes ": " ++ text))

-- a byte at which no instruction begins
abbrev pub byte_text : ℕ → List ℕ
byte_text byte = codes "db " ++ encode_lower (byte ∷ [])

-- what stands at the head of bytes: an instruction, or else the first byte
abbrev pub head_text : Result Instruction DecodeFault → ℕ → List ℕ
head_text (Ok i) byte = instruction_text i
head_text (Err fault) byte = byte_text byte

-- how many bytes stand at the head: those of an instruction, or else one
abbrev pub head_size : Result Instruction DecodeFault → ℕ
head_size (Ok i) = i.length
head_size (Err fault) = 1

-- the lines of bytes from an address on, no more of them than the number, for a node of a kind
unfoldable pub dis_lines : Kind → ℕ → ℕ → List ℕ → List ℕ
dis_lines kind zero address bytes = []
dis_lines kind (suc n) address [] = []
dis_lines kind (suc n) address (byte ∷ bytes) =
    let head = decode_bytes kind (byte ∷ bytes) in
    at_address address (head_text head byte) ++ dis_lines kind n (plus address (head_size head))
    (drop (head_size head) (byte ∷ bytes))

-- the lines of a segment
abbrev pub segment_lines : Kind → Segment → List ℕ
segment_lines kind s = dis_lines kind (length s.bytes) s.address s.bytes

-- the lines of an image, for a node of a kind
abbrev pub dis_text : Kind → Image → List ℕ
dis_text kind image = flat_map (segment_lines kind) image.segments
