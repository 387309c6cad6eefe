use Rattle.std.proofs.Common.{◌≡◌, ℕ, ◌-◌, ◌∙◌, List, sym, ap, ap₂, length, take, drop, arith}
use Rattle.std.proofs.lemmas.List.{length-drop, take_all}
use Rattle.tfiles.specs.Disassembly.{at_address, head_text, segment_lines}
use Rattle.tword.specs.Words.{plus}
use Rattle.tfiles.proofs.DisLines.{lines_at, first_within, first_line, no_line}
use Rattle.tfiles.proofs.Told.{goes_on-as, goes_on-start, goes_on-next, goes_on-end}
use Rattle.tfiles.proofs.dis.put_segment.Goals as goal

pub loop-byte-init : goal.loop-byte-init
loop-byte-init g c =
    goes_on-as (goes_on-start c.args.out.now (segment_lines c.args.kind c.args.segment.now))
    (ap (λ (bytes : List ℕ). lines_at c.args.kind c.args.segment.now.address bytes) (sym c.as_slice-rest.ensures))

pub slice_bounds-rest-count : goal.slice_bounds-rest-count
slice_bounds-rest-count g c =
    let within =
    first_within c.args.kind c.loop-byte.rest.now c.in-Some.byte.now c.decode_bytes-head.result c.in-Some.ensures.value
    c.decode_bytes-head.ensures in
    omega (arith, within.1, c.size_of_head-size.ensures)

pub slice_bounds-rest-start : goal.slice_bounds-rest-start
slice_bounds-rest-start g c =
    let within =
    first_within c.args.kind c.loop-byte.rest.now c.in-Some.byte.now c.decode_bytes-head.result c.in-Some.ensures.value
    c.decode_bytes-head.ensures in
    omega (arith, within.1, c.size_of_head-size.ensures)

pub loop-byte-smaller : goal.loop-byte-smaller
loop-byte-smaller g c =
    let rest : List ℕ = c.loop-byte.rest.now in
    let size : ℕ = c.size_of_head-size.result in
    let within =
    first_within c.args.kind rest c.in-Some.byte.now c.decode_bytes-head.result c.in-Some.ensures.value
    c.decode_bytes-head.ensures in
    let left : take (length rest - size) (drop size rest) ≡ drop size rest =
    take_all (length rest - size) (drop size rest) (omega (arith, length-drop size rest)) in
    omega (arith, ap length left, length-drop size rest, within.0, within.1, c.size_of_head-size.ensures)

pub loop-byte-preserved : goal.loop-byte-preserved
loop-byte-preserved g c =
    let rest : List ℕ = c.loop-byte.rest.now in
    let size : ℕ = c.size_of_head-size.result in
    let left : take (length rest - size) (drop size rest) ≡ drop size rest =
    take_all (length rest - size) (drop size rest) (omega (arith, length-drop size rest)) in
    goes_on-as
    (goes_on-next (at_address c.loop-byte.address (head_text c.decode_bytes-head.result c.in-Some.byte.now)) _
    c.loop-byte.invariant
    (first_line c.args.kind c.loop-byte.address rest c.in-Some.byte.now c.decode_bytes-head.result
    c.in-Some.ensures.value
    c.decode_bytes-head.ensures) c.put_line.ensures)
    (ap₂ (λ (address : ℕ) (bytes : List ℕ). lines_at c.args.kind address bytes)
    (sym (c.plus-address.ensures
    ∙ ap (λ (n : ℕ). plus c.loop-byte.address n) (c.new.ensures ∙ c.size_of_head-size.ensures)))
    (ap (λ (n : ℕ). drop n rest) (sym c.size_of_head-size.ensures) ∙ sym left))

pub returns : goal.returns
returns g c =
    goes_on-end c.loop-byte.invariant (no_line c.args.kind c.loop-byte.address c.loop-byte.rest.now
    c.in_default.ensures.value)
