-- Nothing keeps a text from being a wiring just where it stands for one.
use Rattle.std.proofs.Common.{◌≡◌, ℕ, suc, refl, sym, ap, ◌∙◌, subst, List, [], ◌∷◌, ◌++◌, append_assoc, Bool, true}
use Rattle.std.proofs.Common.{false}
use Rattle.std.proofs.Common.{not, Option, Some, None, Ok, Err, IsOk, codes, if◌then◌else◌}
use Rattle.std.specs.Prelude.{◌↔◌}
use Rattle.std.proofs.lemmas.Bool.{or_parts}
use Rattle.toml.specs.Data.{Data, array, table, Items, no_items, item, Members, no_members, member, get_member}
use Rattle.toml.specs.Parse.{parse_document}
use Rattle.tplan.specs.declared.wiring.Wiring.{Wiring}
use Rattle.tplan.specs.declared.wiring.WiringFault.TheVariants.{UnknownKey}
use Rattle.twiring.specs.declared.flaws.Part.{Part}
use Rattle.twiring.specs.declared.flaws.Part.TheVariants as part
use Rattle.twiring.specs.declared.flaws.Key.{Key}
use Rattle.twiring.specs.declared.flaws.Key.TheVariants as key
use Rattle.twiring.specs.declared.flaws.Entry.{Entry}
use Rattle.twiring.specs.declared.flaws.Entry.TheVariants as entry
use Rattle.twiring.specs.declared.flaws.TextFlaw.{TextFlaw}
use Rattle.twiring.specs.declared.flaws.TextFlaw.TheVariants as flaw
use Rattle.twiring.specs.Wirings.{Names, has_unknown, hold_keys, is_first_in, is_one_of, node_keys, root_keys}
use Rattle.twiring.specs.Wirings.{sink_keys}
use Rattle.twiring.specs.Wirings.{source_keys, wire_keys, wiring_of_document, wiring_of_text, default_timeslice}
use Rattle.twiring.specs.WiringParts.{array_in, both, end_in, held_in, hold_in}
use Rattle.twiring.specs.WiringParts.{kind_in, known, made, message_in, more_in, node_in, node_kind_at, number_in}
use Rattle.twiring.specs.WiringParts.{one_more}
use Rattle.twiring.specs.WiringParts.{Reading, required, sink_in, source_in, table_in, text_in, value_or, version_in}
use Rattle.twiring.specs.WiringParts.{wire_in}
use Rattle.twiring.specs.WiringParts.{wiring_in}
use Rattle.twiring.specs.NearKeys.{near_name}
use Rattle.twiring.specs.Flaws.{array_flaws, document_flaws, entry_flaws, hold_flaws, item_flaws}
use Rattle.twiring.specs.Flaws.{items_flaws, key_flaws, node_flaws, part_of, root_flaws, sink_flaws}
use Rattle.twiring.specs.Flaws.{source_flaws, text_flaws, there_flaws, unknown_flaw, unknown_flaws, wire_flaws}
use Rattle.twiring.proofs.WiringValues.{wiring_in-whole}

-- nothing is wrong just where a part is read
record Agrees {A : Type 0} (flaws : List TextFlaw) (r : Reading A) : Type 0 where
  pub nil : flaws ≡ [] → IsOk r
  pub ok : IsOk r → flaws ≡ []

both_nil : (xs ys : List TextFlaw) → xs ++ ys ≡ [] → (xs ≡ []) × (ys ≡ [])
both_nil [] ys h = (refl, h)
both_nil (x ∷ xs) ys h = cc

nil_both : (xs ys : List TextFlaw) → xs ≡ [] → ys ≡ [] → xs ++ ys ≡ []
nil_both xs ys p q = rw (p, q) refl

-- what stands at a key
key_nil : {A : Type 0} (p : Part) (k : Key) (r : Reading A) → key_flaws p k r ≡ [] → IsOk r
key_nil p k (Ok x) h = refl
key_nil p k (Err f) h = cc

nil_key : {A : Type 0} (p : Part) (k : Key) (r : Reading A) → IsOk r → key_flaws p k r ≡ []
nil_key p k (Ok x) h = refl
nil_key p k (Err f) h = cc

at_key : {A : Type 0} (p : Part) (k : Key) (r : Reading A) → Agrees (key_flaws p k r) r
at_key p k r = record { nil = key_nil p k r; ok = nil_key p k r }

-- two parts
ok_both : {A B : Type 0} (a : Reading A) (b : Reading B) → IsOk (both a b) → IsOk a × IsOk b
ok_both (Ok a) (Ok b) h = (refl, refl)
ok_both (Ok a) (Err f) h = cc
ok_both (Err f) (Ok b) h = cc
ok_both (Err f) (Err g) h = cc

both_ok : {A B : Type 0} (a : Reading A) (b : Reading B) → IsOk a → IsOk b → IsOk (both a b)
both_ok (Ok a) (Ok b) h g = refl
both_ok (Ok a) (Err f) h g = cc
both_ok (Err f) b h g = cc

of_both : {A B : Type 0} (fs gs : List TextFlaw) (a : Reading A) (b : Reading B) → Agrees fs a → Agrees gs b
    → Agrees (fs ++ gs) (both a b)
of_both fs gs a b p q =
    record {
      nil = λ h.
          let each = both_nil fs gs h in
          both_ok a b (p.nil each.0) (q.nil each.1);
      ok = λ h.
          let each = ok_both a b h in
          nil_both fs gs (p.ok each.0) (q.ok each.1);
    }

-- what is made of a part
ok_made : {A B : Type 0} (f : A → B) (r : Reading A) → IsOk (made f r) → IsOk r
ok_made f (Ok x) h = refl
ok_made f (Err e) h = cc

made_ok : {A B : Type 0} (f : A → B) (r : Reading A) → IsOk r → IsOk (made f r)
made_ok f (Ok x) h = refl
made_ok f (Err e) h = cc

of_made : {A B : Type 0} (f : A → B) (fs : List TextFlaw) (r : Reading A) → Agrees fs r → Agrees fs (made f r)
of_made f fs r p = record { nil = λ h. made_ok f r (p.nil h); ok = λ h. p.ok (ok_made f r h) }

-- the keys of a table
known_nil : (b : Bool) (x : TextFlaw) → (if b then [] else x ∷ []) ≡ [] → not b ≡ false
known_nil true x h = refl
known_nil false x h = cc

nil_known : (b : Bool) (x : TextFlaw) → not b ≡ false → (if b then [] else x ∷ []) ≡ []
nil_known true x h = refl
nil_known false x h = cc

keys_nil : (p : Part) (names : Names) (t : Members) → unknown_flaws p names t ≡ [] → has_unknown names t ≡ false
keys_nil p names no_members h = refl
keys_nil p names (member k d rest) h =
    let each : (unknown_flaw p names k ≡ []) × (unknown_flaws p names rest ≡ []) = both_nil _ _ h in
    rw (known_nil (is_one_of k names) (flaw.UnknownKey p k (near_name k names)) each.0, keys_nil p names rest each.1)
    refl

nil_keys : (p : Part) (names : Names) (t : Members) → has_unknown names t ≡ false → unknown_flaws p names t ≡ []
nil_keys p names no_members h = refl
nil_keys p names (member k d rest) h =
    let each : (not (is_one_of k names) ≡ false) × (has_unknown names rest ≡ false) = or_parts _ _ h in
    nil_both (unknown_flaw p names k) (unknown_flaws p names rest)
    (nil_known (is_one_of k names) (flaw.UnknownKey p k (near_name k names)) each.0) (nil_keys p names rest each.1)

ok_if : {A : Type 0} (b : Bool) (r : Reading A) → IsOk (if b then Err UnknownKey else r) → (b ≡ false) × IsOk r
ok_if false r h = (refl, h)
ok_if true r h = cc

if_ok : {A : Type 0} (b : Bool) (r : Reading A) → b ≡ false → IsOk r → IsOk (if b then Err UnknownKey else r)
if_ok b r e h = rw e h

of_known : {A : Type 0} (p : Part) (names : Names) (t : Members) (fs : List TextFlaw) (r : Reading A) → Agrees fs r
    → Agrees (unknown_flaws p names t ++ fs) (known names t r)
of_known p names t fs r a =
    record {
      nil = λ h.
          let each = both_nil (unknown_flaws p names t) fs h in
          if_ok (has_unknown names t) r (keys_nil p names t each.0) (a.nil each.1);
      ok = λ h.
          let each = ok_if (has_unknown names t) r h in
          nil_both (unknown_flaws p names t) fs (nil_keys p names t each.0) (a.ok each.1);
    }

-- the same flaws
of_same : {A : Type 0} (fs gs : List TextFlaw) (r : Reading A) → fs ≡ gs → Agrees fs r → Agrees gs r
of_same fs gs r e a = subst (λ (hs : List TextFlaw). Agrees hs r) e a

-- ---- entries

node_agrees : (first : Bool) (p : Part) (t : Members) → Agrees (node_flaws first p t) (node_in first t)
node_agrees first p t =
    of_known p (node_keys first) t _ _ (of_made _ _ _
    (of_both _ _ _ _ (at_key p key.Memory (required number_in (codes "memory") t))
    (of_both _ _ _ _ (at_key p key.Kind (node_kind_at t)) (at_key p key.Image (required text_in (codes "image") t)))))

wire_agrees : (p : Part) (t : Members) → Agrees (wire_flaws p t) (wire_in t)
wire_agrees p t =
    of_known p wire_keys t _ _ (of_made _ _ _
    (of_both _ _ _ _ (at_key p key.A (required end_in (codes "a") t)) (at_key p key.B (required end_in (codes "b") t))))

source_agrees : (p : Part) (t : Members) → Agrees (source_flaws p t) (source_in t)
source_agrees p t =
    of_known p source_keys t _ _ (of_made _ _ _
    (of_both _ _ _ _ (at_key p key.End (required end_in (codes "end") t))
    (at_key p key.Messages (required (array_in message_in) (codes "messages") t))))

sink_agrees : (p : Part) (t : Members) → Agrees (sink_flaws p t) (sink_in t)
sink_agrees p t =
    of_known p sink_keys t _ _ (of_made _ _ _
    (of_both _ _ _ _ (at_key p key.End (required end_in (codes "end") t))
    (at_key p key.Capacity (required number_in (codes "capacity") t))))

hold_agrees : (p : Part) (t : Members) → Agrees (hold_flaws p t) (hold_in t)
hold_agrees p t =
    let end_flaws : List TextFlaw = key_flaws p key.End (required end_in (codes "end") t) in
    let kind_flaws : List TextFlaw = key_flaws p key.Kind (required kind_in (codes "kind") t) in
    let from_flaws : List TextFlaw = key_flaws p key.From (required number_in (codes "from") t) in
    let until_flaws : List TextFlaw = key_flaws p key.Until (required number_in (codes "until") t) in
    of_known p hold_keys t _ _ (of_made _ _ _
    (of_same ((end_flaws ++ kind_flaws) ++ (from_flaws ++ until_flaws))
    (end_flaws ++ (kind_flaws ++ (from_flaws ++ until_flaws))) (held_in t)
    (append_assoc end_flaws kind_flaws (from_flaws ++ until_flaws))
    (of_both _ _ _ _
    (of_both _ _ _ _ (at_key p key.End (required end_in (codes "end") t))
    (at_key p key.Kind (required kind_in (codes "kind") t)))
    (of_both _ _ _ _ (at_key p key.From (required number_in (codes "from") t))
    (at_key p key.Until (required number_in (codes "until") t))))))

-- ---- arrays

module _ {A : Type 0} (first : Bool) (e : Entry) (read : Members → Reading A)
    (agree : (p : Part) (t : Members) → Agrees (entry_flaws first e p t) (read t)) where
  item_agrees : (p : Part) (d : Data) → Agrees (item_flaws first e p d) (table_in read d)
  item_agrees p (table t) = agree p t
  item_agrees p _ = record { nil = λ h. cc; ok = λ h. cc }

  more_nil : (n : ℕ) (items : Items) (found : Reading (List A)) → IsOk found → items_flaws first e n items ≡ []
      → IsOk (more_in (table_in read) found items)
  more_nil n no_items found h g = h
  more_nil n (item d rest) found h g =
      let each = both_nil (item_flaws first e (part_of e n) d) (items_flaws first e (suc n) rest) g in
      more_nil (suc n) rest (one_more found (table_in read d))
      (made_ok _ (both found (table_in read d))
      (both_ok found (table_in read d) h ((item_agrees (part_of e n) d).nil each.0))) each.1

  nil_more : (n : ℕ) (items : Items) (found : Reading (List A)) → IsOk (more_in (table_in read) found items)
      → IsOk found × (items_flaws first e n items ≡ [])
  nil_more n no_items found h = (h, refl)
  nil_more n (item d rest) found h =
      let behind = nil_more (suc n) rest (one_more found (table_in read d)) h in
      let here = ok_both found (table_in read d) (ok_made _ (both found (table_in read d)) behind.0) in (
        here.0,
        nil_both (item_flaws first e (part_of e n) d) (items_flaws first e (suc n) rest)
            ((item_agrees (part_of e n) d).ok here.1) behind.1,
      )

  there_agrees : (o : Option Data) → Agrees (there_flaws first e o) (value_or (Ok []) (array_in (table_in read)) o)
  there_agrees None = record { nil = λ h. refl; ok = λ h. refl }
  there_agrees (Some (array items)) =
      record {
        nil = λ h. more_nil 0 items (Ok []) refl h;
        ok = λ h. (nil_more 0 items (Ok []) h).1;
      }
  there_agrees (Some _) = record { nil = λ h. cc; ok = λ h. cc }

-- ---- the whole

root_agrees : (t : Members) → Agrees (root_flaws t) (wiring_in t)
root_agrees t =
    let first : Bool = is_first_in t in
    let unknown : List TextFlaw = unknown_flaws part.Whole (root_keys t) t in
    let version : List TextFlaw = key_flaws part.Whole key.Version (required version_in (codes "version") t) in
    let timeslice : List TextFlaw =
    key_flaws part.Whole key.Timeslice (value_or (Ok default_timeslice) number_in (get_member (codes "timeslice") t)) in
    let n : List TextFlaw = array_flaws first entry.Node t in
    let w : List TextFlaw = array_flaws first entry.Wire t in
    let so : List TextFlaw = array_flaws first entry.Source t in
    let si : List TextFlaw = array_flaws first entry.Sink t in
    let h : List TextFlaw = array_flaws first entry.Hold t in
    let rest : List TextFlaw = n ++ (w ++ (so ++ (si ++ h))) in
    let arrays : (n ++ w) ++ ((so ++ si) ++ h) ≡ rest =
    append_assoc n w ((so ++ si) ++ h)
    ∙ ap (λ (fs : List TextFlaw). n ++ (w ++ fs)) (append_assoc so si h) in
    let same : unknown ++ ((version ++ timeslice) ++ ((n ++ w) ++ ((so ++ si) ++ h))) ≡ root_flaws t =
    ap (λ (fs : List TextFlaw). unknown ++ ((version ++ timeslice) ++ fs)) arrays
    ∙ sym (append_assoc unknown (version ++ timeslice) rest) in
    of_same _ _ (wiring_in t) same
    (of_known part.Whole (root_keys t) t _ _ (of_made _ _ _
    (of_both _ _ _ _
    (of_made _ _ _ (of_both _ _ _ _ (at_key part.Whole key.Version (required version_in (codes "version") t))
    (at_key part.Whole key.Timeslice
    (value_or (Ok default_timeslice) number_in (get_member (codes "timeslice") t)))))
    (of_both _ _ _ _
    (of_both _ _ _ _
    (there_agrees first entry.Node (node_in first) (node_agrees first) (get_member (codes "node") t))
    (there_agrees first entry.Wire wire_in wire_agrees (get_member (codes "wire") t)))
    (of_both _ _ _ _
    (of_both _ _ _ _
    (there_agrees first entry.Source source_in source_agrees (get_member (codes "source") t))
    (there_agrees first entry.Sink sink_in sink_agrees (get_member (codes "sink") t)))
    (there_agrees first entry.Hold hold_in hold_agrees (get_member (codes "hold") t)))))))

document_agrees : (o : Option Members) → Agrees (document_flaws o) (wiring_of_document o)
document_agrees None = record { nil = λ h. cc; ok = λ h. cc }
document_agrees (Some t) =
    subst (λ (r : Reading Wiring). Agrees (root_flaws t) r) (wiring_in-whole t) (root_agrees t)

pub nothing_is_a_wiring : (text : List ℕ) → (text_flaws text ≡ []) ↔ IsOk (wiring_of_text text)
nothing_is_a_wiring text =
    let a = document_agrees (parse_document text) in
    (a.nil, a.ok)
