-- Rows that the definitions compute.
use Rattle.std.specs.Prelude.{ℕ, ◌≡◌, List, [], ◌∷◌, ◌++◌, Ok, Err, refl, codes, replicate, take}
use Rattle.hex.specs.Hex.{encode_with}
use Rattle.tword.specs.declared.kind.Kind.TheVariants.{One, Two}
use Rattle.tword.specs.Stores.{as_cells}
use Rattle.tcode.specs.Table.{function_at, operation_at}
use Rattle.tplan.specs.declared.plan.Segment.{Segment}
use Rattle.tfiles.specs.declared.image.ImageFault.TheVariants.{TooMany, Truncated, Trailing}
use Rattle.tfiles.specs.Disassembly.{dis_lines, segment_lines}
use Rattle.tfiles.specs.Images.{image_of}
use Rattle.tfiles.specs.Texts.{dump_line}

abbrev first_image : List ℕ
first_image =
    codes "TEMUIMG1" ++ (1 ∷ 0 ∷ 0 ∷ 0 ∷ 1 ∷ 0 ∷ 0 ∷ 0 ∷ 0x80 ∷ 0 ∷ 0 ∷ 0x80 ∷ 7 ∷ 0 ∷ 0 ∷ 0
    ∷ 0x44 ∷ 0xd0 ∷ 0x70 ∷ 0x81 ∷ 0xd1 ∷ 0x21 ∷ 0xf5 ∷ 1 ∷ 1 ∷ 0 ∷ 0x80 ∷ 0x80 ∷ 0 ∷ 0 ∷ 0x80 ∷ [])

first_image-read : image_of first_image
    ≡ Ok (record {
      segments = record { address = 0x8000_0080; bytes = 0x44 ∷ 0xd0 ∷ 0x70 ∷ 0x81 ∷ 0xd1 ∷ 0x21 ∷ 0xf5 ∷ [] } ∷ [];
      processes = record { wdesc = 0x8000_0101; iptr = 0x8000_0080 } ∷ [];
    })
unfolding image_of
first_image-read = refl

first_image-short : image_of (take 38 first_image) ≡ Err Truncated
unfolding image_of
first_image-short = refl

first_image-long : image_of (first_image ++ 0 ∷ []) ≡ Err Trailing
unfolding image_of
first_image-long = refl

-- a count over its limit is told even where the header ends behind it
too_many_segments : image_of (codes "TEMUIMG1" ++ (1 ∷ 0x10 ∷ 0 ∷ 0 ∷ [])) ≡ Err TooMany
unfolding image_of
too_many_segments = refl

cut_in_a_count : image_of (codes "TEMUIMG1" ++ (0 ∷ 0x10 ∷ 0 ∷ 0 ∷ 1 ∷ 2 ∷ 0 ∷ [])) ≡ Err Truncated
unfolding image_of
cut_in_a_count = refl

-- a segment of `dup`, for a node of either kind
abbrev dup_segment : Segment
dup_segment = record { address = 0x8000_0080; bytes = 0x25 ∷ 0xfa ∷ [] }

no_dup_in_kind_1 : segment_lines One dup_segment ≡ codes "80000080: db 25" ++ 10 ∷ codes "80000081: wsub" ++ 10 ∷ []
unfolding dis_lines function_at operation_at encode_with
no_dup_in_kind_1 = refl

dup_in_kind_2 : segment_lines Two dup_segment ≡ codes "80000080: dup" ++ 10 ∷ []
unfolding dis_lines function_at operation_at encode_with
dup_in_kind_2 = refl

-- the last line of the largest memory, whose last word is 7
last_line : dump_line 0x80ff_fff0 (as_cells (replicate 12 0 ++ 7 ∷ 0 ∷ 0 ∷ 0 ∷ []))
    ≡ codes "80fffff0: 00 00 00 00 00 00 00 00 00 00 00 00 07 00 00 00" ++ 10 ∷ []
unfolding encode_with
last_line = refl
