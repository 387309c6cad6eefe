-- A node that keeps a source or a sink does what is defined on its list of messages.
use Rattle.std.proofs.Common.{◌≡◌, ◌∙◌, ℕ, zero, suc, ◌+◌, ◌-◌, ◌<◌, ◌≤◌, refl, sym, ap, List, [], ◌∷◌, ◌++◌, length}
use Rattle.std.proofs.Common.{map}
use Rattle.std.proofs.Common.{take, drop, set, get_or, replicate, length-append, Bool, true, false}
use Rattle.std.proofs.Common.{Option, Some, None, ◌⊎◌, inl, inr, arith}
use Rattle.std.specs.Prelude.{slice_get, sum, option_map}
use Rattle.std.specs.List.{concat}
use Rattle.std.proofs.lemmas.Bool.{cases_eq, cases_lt, ne_eqb, eq-eqb, lt-ltb, le-ltb}
use Rattle.std.proofs.lemmas.List.{append_assoc, append-nil, length-replicate, map-append, take-append-drop}
use Rattle.std.proofs.lemmas.List.{get_or_append_left}
use Rattle.std.proofs.lemmas.List.{get_or-append_right, set_at}
use Rattle.std.proofs.lemmas.List.Folds.{concat-append}
use Rattle.std.proofs.lemmas.List.Sums.{sum_by-append, sum_by-cons}
use Rattle.std.proofs.lemmas.Option.{same_Some, slice_get-map}
use Rattle.tlink.specs.declared.counts.Arrival.{Arrival}
use Rattle.tlink.specs.declared.counts.Counts.{Counts}
use Rattle.tlink.specs.declared.event.NodeEvent.{NodeEvent}
use Rattle.tlink.specs.declared.event.NodeEvent.TheVariants.{Send, Data, Take, Ack}
use Rattle.tlink.specs.declared.event.Mark.TheVariants.{Nothing, Completed}
use Rattle.tlink.specs.declared.event.Packet.TheVariants as packet
use Rattle.tlink.specs.Events.{happens, emitting, silently}
use Rattle.tlink.specs.Scripts.{source_state, sink_state}
use Rattle.tlink.specs.MessageLists.{Source, Sink, source_does, sink_does, sent_of, acked_of, arrived_of, taken_of}
use Rattle.tlink.specs.KeptLists.{source_node, sink_node, kept_as, SourcesAreLists, SinksAreLists}
use Rattle.tlink.proofs.Fresh.{length-joined}
use Rattle.tlink.proofs.Sources as source
use Rattle.tlink.proofs.Sinks as sink

-- the first k lengths and the others, added up together
sum_of_parts : (lengths : List ℕ) (k : ℕ) → sum (take k lengths) + sum (drop k lengths) ≡ sum lengths
sum_of_parts lengths k =
    sym (sum_by-append (λ n. n) (take k lengths) (drop k lengths)) ∙ ap sum (take-append-drop k lengths)

-- a byte of a message, among those of all
byte_of : (messages : List (List ℕ)) (k i : ℕ) (m : List ℕ) → slice_get messages k ≡ Some m → i < length m
    → get_or (concat messages) (sum (take k (map length messages)) + i) 0 ≡ get_or m i 0
byte_of [] k i m h b = cc
byte_of (x ∷ xs) zero i m h b =
    let e : x ≡ m = same_Some _ _ h in
    let at : 0 + i ≡ i = omega arith in
    rw (e, at) (get_or_append_left m (concat xs) 0 i b)
byte_of (x ∷ xs) (suc k) i m h b =
    let before : ℕ = sum (take k (map length xs)) in
    let at : sum (length x ∷ take k (map length xs)) ≡ length x + before =
    sum_by-cons (λ n. n) (length x) (take k (map length xs)) in
    let rest : length x + before + i - length x ≡ before + i = omega arith in
    rw at (get_or-append_right x (concat xs) (length x) (length x + before + i) 0 refl (omega arith)
    ∙ rw rest (byte_of xs k i m h b))

module _ (s : Source) where
  bytes : List ℕ
  bytes = concat s.messages

  lengths : List ℕ
  lengths = map length s.messages

  start : ℕ
  start = sum (take s.over (map length s.messages))

  abbrev counts : Counts
  counts = record { sent = s.sent; acked = s.acked; got = 0; arrived = None }

  length_of : (o : Option (List ℕ)) → slice_get s.messages s.over ≡ o
      → slice_get (map length s.messages) s.over ≡ option_map length o
  length_of o h = slice_get-map length s.messages s.over ∙ ap (option_map length) h

  within : sum (take s.over (map length s.messages)) + sum (drop s.over (map length s.messages))
      ≤ length (concat s.messages)
  within = omega (arith, sum_of_parts (map length s.messages) s.over, length-joined s.messages)

  sends : (o : Option (List ℕ)) → slice_get s.messages s.over ≡ o
      → happens (Send 0) (source_node s) ≡ kept_as source_node (sent_of s o)
  sends None h = source.send_over _ _ _ _ counts (length_of None h)
  sends (Some m) h = by (cases_eq s.acked s.sent) (cases_lt s.sent (length m))
    where
      by : (s.acked ≡ s.sent) ⊎ (s.acked ≡ s.sent → ⊥) → (s.sent < length m) ⊎ (length m ≤ s.sent)
          → happens (Send 0) (source_node s) ≡ kept_as source_node (sent_of s (Some m))
      by (inr other) _ =
          source.send_early _ _ _ _ counts (length m) (length_of (Some m) h) other
          ∙ rw (ne_eqb s.acked s.sent other) refl
      by (inl same) (inr past) =
          source.send_past _ _ _ _ counts (length m) (length_of (Some m) h) same past
          ∙ rw (eq-eqb s.acked s.sent same, le-ltb s.sent (length m) past) refl
      by (inl same) (inl more) =
          source.send_next _ _ _ _ counts (length m) (length_of (Some m) h) within same more
          ∙ rw (
            eq-eqb s.acked s.sent same,
            lt-ltb s.sent (length m) more,
            byte_of s.messages s.over s.sent m h more,
          )
          refl

  -- the lengths with one more message that is over
  start_more : (m : List ℕ) → slice_get s.messages s.over ≡ Some m
      → sum (take s.over (map length s.messages)) + length m ≡ sum (take (suc s.over) (map length s.messages))
  start_more m h =
      let e : sum (take (suc s.over) (map length s.messages))
      ≡ sum (take s.over (map length s.messages)) + (0 + length m)
      = ap sum (source.over_more (map length s.messages) s.over (length m) (length_of (Some m) h))
      ∙ sum_by-append (λ n. n) (take s.over (map length s.messages)) (length m ∷ []) in
      omega (arith, e)

  hears : (o : Option (List ℕ)) → slice_get s.messages s.over ≡ o
      → happens (Ack 0) (source_node s) ≡ kept_as source_node (acked_of s o)
  hears None h = source.ack_over _ _ _ _ counts (length_of None h)
  hears (Some m) h = by (cases_eq s.sent (s.acked + 1)) (cases_eq s.sent (length m))
    where
      by : (s.sent ≡ s.acked + 1) ⊎ (s.sent ≡ s.acked + 1 → ⊥) → (s.sent ≡ length m) ⊎ (s.sent ≡ length m → ⊥)
          → happens (Ack 0) (source_node s) ≡ kept_as source_node (acked_of s (Some m))
      by (inr other) _ =
          source.ack_none _ _ _ _ counts (length m) (length_of (Some m) h) other
          ∙ rw (ne_eqb s.sent (s.acked + 1) other) refl
      by (inl same) (inr other) =
          source.ack_byte _ _ _ _ counts (length m) (length_of (Some m) h) same other
          ∙ rw (eq-eqb s.sent (s.acked + 1) same, ne_eqb (s.acked + 1) (length m) (λ e. other (same ∙ e)))
          (ap (λ k. silently Nothing (source_state (concat s.messages) (map length s.messages) s.over
          (sum (take s.over (map length s.messages))) (record { sent = s.sent; acked = k; got = 0; arrived = None })))
          same)
      by (inl same) (inl whole) =
          let one : s.over + 1 ≡ suc s.over = omega arith in
          source.ack_last _ _ _ _ counts (length m) (length_of (Some m) h) same whole
          ∙ rw (
            eq-eqb s.sent (s.acked + 1) same,
            eq-eqb (s.acked + 1) (length m) (sym same ∙ whole),
            one,
            start_more m h,
          )
          refl

  source_is : (e : NodeEvent) → happens e (source_node s) ≡ kept_as source_node (source_does e s)
  source_is (Send zero) = sends (slice_get s.messages s.over) refl
  source_is (Ack zero) = hears (slice_get s.messages s.over) refl
  source_is e = source.alone _ _ _ _ counts e (λ q. cc) (λ q. cc)

pub sources_are_lists : SourcesAreLists
sources_are_lists = (λ messages. refl, λ e s. source_is s e)

-- a sink, by what its node holds
same_sink : (bytes bytes' lengths lengths' : List ℕ) (kept kept' got got' : ℕ) (a : Option Arrival) → bytes ≡ bytes'
    → lengths ≡ lengths' → kept ≡ kept' → got ≡ got'
    → sink_state bytes lengths kept (record { sent = 0; acked = 0; got = got; arrived = a })
    ≡ sink_state bytes' lengths' kept' (record { sent = 0; acked = 0; got = got'; arrived = a })
same_sink bytes bytes' lengths lengths' kept kept' got got' a b l k g = rw (b, l, k, g) refl

-- one more byte behind two lists
one_behind : (xs ys zs : List ℕ) (b : ℕ) → xs ++ ys ++ b ∷ zs ≡ xs ++ (ys ++ b ∷ []) ++ zs
one_behind xs ys zs b =
    sym (ap (λ (us : List ℕ). us ++ zs) (sym (append_assoc xs ys (b ∷ []))) ∙ append_assoc (xs ++ ys) (b ∷ []) zs)

-- one more message behind those that were kept
kept_joined : (kept : List (List ℕ)) (x : List ℕ) → concat (kept ++ x ∷ []) ≡ concat kept ++ x
kept_joined kept x = concat-append kept (x ∷ []) ∙ ap (λ (us : List ℕ). concat kept ++ us) (append-nil x)

kept_lengths : (kept : List (List ℕ)) (part : List ℕ) (b : ℕ)
    → map length kept ++ (length part + 1) ∷ [] ≡ map length (kept ++ (part ++ b ∷ []) ∷ [])
kept_lengths kept part b =
    ap (λ (n : ℕ). map length kept ++ n ∷ []) (sym (length-append part (b ∷ [])))
    ∙ sym (map-append length kept ((part ++ b ∷ []) ∷ []))

module _ (s : Sink) where
  abbrev counts_of : Counts
  counts_of = record { sent = 0; acked = 0; got = length s.part; arrived = s.arrived }

  receives : (a : Arrival) (o : Option Arrival) → s.arrived ≡ o
      → happens (Data 0 a.byte a.last) (sink_node s) ≡ kept_as sink_node (arrived_of s a o)
  receives a None h = sink.data_comes _ _ _ counts_of a.byte a.last h
  receives a (Some b) h = sink.data_full _ _ _ counts_of a.byte a.last b h

  -- where the next byte goes
  at : length (concat s.kept ++ s.part) ≡ length (concat s.kept) + length s.part
  at = length-append (concat s.kept) s.part

  size : (room : ℕ) → length (concat s.kept ++ s.part ++ replicate room 0)
      ≡ length (concat s.kept) + length s.part + room
  size room =
      omega (arith, length-append (concat s.kept ++ s.part) (replicate room 0), at, length-replicate {A = ℕ} room 0)

  written : (room b : ℕ) → set (concat s.kept ++ s.part ++ replicate (suc room) 0)
      (length (concat s.kept) + length s.part) b
      ≡ concat s.kept ++ s.part ++ b ∷ replicate room 0
  written room b =
      set_at (concat s.kept ++ s.part) 0 (replicate room 0) b (length (concat s.kept) + length s.part) at

  takes : (o : Option Arrival) (room : ℕ) → s.arrived ≡ o → s.room ≡ room
      → happens (Take 0) (sink_node s) ≡ kept_as sink_node (taken_of s o room)
  takes None room h r = sink.take_none _ _ _ counts_of h
  takes (Some a) zero h r =
      sink.take_full _ _ _ counts_of a h (rw r (omega (arith, size 0)))
  takes (Some a) (suc room) h r = by a.last refl
    where
      more : length (concat s.kept) + length s.part < length (concat s.kept ++ s.part ++ replicate s.room 0)
      more = rw r (omega (arith, size (suc room)))

      by : (last : Bool) → a.last ≡ last
          → happens (Take 0) (sink_node s) ≡ kept_as sink_node (taken_of s (Some a) (suc room))
      by false e =
          sink.take_byte _ _ _ counts_of a h more e
          ∙ rw e (ap (emitting 0 packet.Ack Nothing) (same_sink _ _ _ _ _ _ _ _ None
          (rw r (written room a.byte ∙ one_behind (concat s.kept) s.part (replicate room 0) a.byte)) refl refl
          (sym (length-append s.part (a.byte ∷ [])))))
      by true e =
          sink.take_last _ _ _ counts_of a h more e
          ∙ rw e (ap (emitting 0 packet.Ack (Completed 0)) (same_sink _ _ _ _ _ _ _ _ None
          (rw r (written room a.byte ∙ one_behind (concat s.kept) s.part (replicate room 0) a.byte
          ∙ rw (kept_joined s.kept (s.part ++ a.byte ∷ []), append-nil (concat s.kept ++ (s.part ++ a.byte ∷ [])))
          refl))
          (kept_lengths s.kept s.part a.byte)
          (rw (kept_joined s.kept (s.part ++ a.byte ∷ []))
          (omega (arith, length-append (concat s.kept) (s.part ++ a.byte ∷ []), length-append s.part (a.byte ∷ []))))
          refl))

  sink_is : (e : NodeEvent) → happens e (sink_node s) ≡ kept_as sink_node (sink_does e s)
  sink_is (Data zero byte last) = receives (record { byte = byte; last = last }) s.arrived refl
  sink_is (Take zero) = takes s.arrived s.room refl refl
  sink_is e = sink.alone _ _ _ counts_of e (λ b last q. cc) (λ q. cc)

pub sinks_are_lists : SinksAreLists
sinks_are_lists = (
  λ capacity. (let e : capacity - 0
      ≡ capacity = omega arith in rw (length-replicate {A = ℕ} capacity 0, e) refl),
  λ e s. sink_is s e,
)
