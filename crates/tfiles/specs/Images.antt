-- Which bytes stand for which image.
-- Source: own choice, a format of this program.
use Rattle.std.specs.Prelude.{ℕ, zero, suc, ◌≡◌, ◌≤◌, ◌<◌, ◌^◌, nat_lt, List, [], ◌∷◌, ◌++◌, length, take, drop, All}
use Rattle.std.specs.Prelude.{Option, Some, None, Result, Ok, Err, codes, flat_map, bytes_eq, not, if◌then◌else◌}
use Rattle.std.specs.Int.{w32, to_le_bytes, from_le_bytes}
use Rattle.tword.specs.Limits.{most_processes, most_segments}
use Rattle.tplan.specs.declared.plan.Segment.{Segment}
use Rattle.tplan.specs.declared.plan.Process.{Process}
use Rattle.tplan.specs.declared.plan.Image.{Image}
use Rattle.tnet.specs.Building.{AreBytes, AreImageWords}
use Rattle.tfiles.specs.declared.image.ImageFault.{ImageFault}
use Rattle.tfiles.specs.declared.image.ImageFault.TheVariants.{BadMagic, TooMany, Truncated, Trailing, OutOfMemory}

-- the first eight bytes of an image
abbrev pub magic : List ℕ
magic = codes "TEMUIMG1"

-- a word, the lowest byte first
abbrev pub word_bytes : ℕ → List ℕ
word_bytes n = to_le_bytes w32 n

-- the bytes of a segment
abbrev pub segment_bytes : Segment → List ℕ
segment_bytes s = word_bytes s.address ++ (word_bytes (length s.bytes) ++ s.bytes)

-- the bytes of a process
abbrev pub process_bytes : Process → List ℕ
process_bytes p = word_bytes p.wdesc ++ word_bytes p.iptr

-- the one spelling of an image
abbrev pub spelling : Image → List ℕ
spelling i =
    magic ++ (word_bytes (length i.segments) ++ (word_bytes (length i.processes)
    ++ (flat_map segment_bytes i.segments ++ flat_map process_bytes i.processes)))

-- an image that has a spelling
pub record Fits (i : Image) : Type 0 where
  pub segments : length i.segments ≤ most_segments
  pub processes : length i.processes ≤ most_processes
  pub lengths : All (λ s. length s.bytes < 2 ^ 32) i.segments
  pub words : AreImageWords i

-- a part that is read, and the bytes after it; none where they end too soon
abbrev pub Reading : Type 0 → Type 0
Reading A = Option (A × List ℕ)

-- one part is read, and then another from the bytes after it
abbrev pub then_read : {A B : Type 0} → Reading A → (A → List ℕ → Reading B) → Reading B
then_read None f = None
then_read (Some (x, rest)) f = f x rest

-- a word is read
abbrev pub word_in : List ℕ → Reading ℕ
word_in bytes = if nat_lt (length bytes) 4 then None else Some (from_le_bytes w32 (take 4 bytes), drop 4 bytes)

-- n bytes are read
abbrev pub bytes_in : ℕ → List ℕ → Reading (List ℕ)
bytes_in n bytes = if nat_lt (length bytes) n then None else Some (take n bytes, drop n bytes)

-- a segment is read
abbrev pub segment_in : List ℕ → Reading Segment
segment_in bytes =
    then_read (word_in bytes) (λ address rest.
    then_read (word_in rest) (λ size rest.
    then_read (bytes_in size rest) (λ bytes rest. Some (record { address = address; bytes = bytes }, rest))))

-- a process is read
abbrev pub process_in : List ℕ → Reading Process
process_in bytes =
    then_read (word_in bytes) (λ wdesc rest.
    then_read (word_in rest) (λ iptr rest. Some (record { wdesc = wdesc; iptr = iptr }, rest)))

-- a given number of parts of one kind is read
abbrev pub parts_in : {A : Type 0} → (List ℕ → Reading A) → ℕ → List ℕ → Reading (List A)
parts_in part zero bytes = Some ([], bytes)
parts_in part (suc n) bytes =
    then_read (part bytes) (λ x rest. then_read (parts_in part n rest) (λ xs rest. Some (x ∷ xs, rest)))

-- the bytes behind what is read
abbrev pub left_over : {A : Type 0} → Reading A → Option (List ℕ)
left_over None = None
left_over (Some (x, rest)) = Some rest

-- the image whose parts end with the bytes, or what is wrong behind its two counts
abbrev pub whole_image : Reading Image → Result Image ImageFault
whole_image None = Err Truncated
whole_image (Some (i, [])) = Ok i
whole_image (Some (i, byte ∷ bytes)) = Err Trailing

-- segments and processes are read, and no byte may follow
abbrev pub body_of : ℕ → ℕ → List ℕ → Result Image ImageFault
body_of segments processes bytes =
    whole_image (
    then_read (parts_in segment_in segments bytes) (λ ss rest.
    then_read (parts_in process_in processes rest) (λ ps rest. Some (record { segments = ss; processes = ps }, rest))))

-- a count is read, which has to be there and within its limit
abbrev pub with_count : ℕ → Reading ℕ → (ℕ → List ℕ → Result Image ImageFault) → Result Image ImageFault
with_count limit None f = Err Truncated
with_count limit (Some (count, rest)) f = if nat_lt limit count then Err TooMany else f count rest

-- the two counts and what follows them
abbrev pub counted_body : List ℕ → Result Image ImageFault
counted_body bytes =
    with_count most_segments (word_in bytes)
    (λ segments rest. with_count most_processes (word_in rest) (λ processes rest. body_of segments processes rest))

-- the image that bytes stand for, or the lowest fault
unfoldable pub image_of : List ℕ → Result Image ImageFault
image_of bytes = if not (bytes_eq (take 8 bytes) magic) then Err BadMagic else counted_body (drop 8 bytes)

-- what a reader of images may answer: what the bytes stand for, or that there was no memory
abbrev pub IsImageAnswer : Result Image ImageFault → Result Image ImageFault → Type 0
IsImageAnswer told (Err OutOfMemory) = Unit {0}
IsImageAnswer told answer = answer ≡ told

-- why a part could not be read: its bytes end too soon, or there was no memory
abbrev pub IsPartFault : {A : Type 0} → Reading A → ImageFault → Type 0
IsPartFault reading Truncated = reading ≡ None
IsPartFault reading OutOfMemory = Unit {0}
IsPartFault reading _ = ⊥

-- bytes that are read are the spelling of their image, and each spelling is read as its image
abbrev pub ReadsImages : Type 0
ReadsImages =
    ((bytes : List ℕ) (i : Image) → AreBytes bytes → image_of bytes ≡ Ok i → (bytes ≡ spelling i) × Fits i)
    × ((i : Image) → Fits i → image_of (spelling i) ≡ Ok i)
