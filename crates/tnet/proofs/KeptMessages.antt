-- When a message goes over to a sink, that has kept it whole, behind the messages before it.
use Rattle.std.proofs.Common.{◌≡◌, ℕ, ◌+◌, ◌-◌, ◌<◌, refl, sym, ap, ◌∙◌, List, [], ◌∷◌, ◌++◌, length, take, drop}
use Rattle.std.proofs.Common.{get_or, None, arith, length-take, length-drop, get_or-take, get_or-drop, drop-drop}
use Rattle.std.specs.Prelude.{sum, unwrap_or}
use Rattle.std.proofs.Math.ListN.{get_or-map}
use Rattle.std.proofs.lemmas.List.{ext_get_or, length-map, take-map, drop-map}
use Rattle.std.proofs.lemmas.List.Sums.{sum_by-cons}
use Rattle.tword.specs.Words.{most_neg}
use Rattle.tword.specs.Stores.{Store, with_cells, cells, shown, bytes_at}
use Rattle.tword.specs.Claims.{is_input}
use Rattle.tword.specs.Touches.{byte_span}
use Rattle.tword.proofs.Hiding.{length-hiding_from}
use Rattle.tproc.specs.declared.offer.Offer.{Offer}
use Rattle.tproc.specs.Machine.{Machine, claims_of}
use Rattle.tproc.specs.Hidden.{hidden}
use Rattle.tproc.proofs.Given.{IsGiven, filled_size}
use Rattle.tlink.specs.Roles.{Role, Processor, Source, Sink, role_filled, filled}
use Rattle.tlink.specs.Scripts.{cut, messages_of}
use Rattle.tlink.proofs.Held.{sink_asks}
use Rattle.tnet.specs.Rendezvous.{given, Fits}
use Rattle.tnet.specs.Corollaries.{SinksKeepWhole}
use Rattle.tnet.proofs.CopiesWhole.{receiver_after}
use Rattle.tnet.proofs.Reached.{copy_given, reached_veiled}
use Rattle.tnet.proofs.VeiledRoles.{AreVeils, given-message, kept_before}

-- messages are cut from as many bytes as they have together
cut-same : (ns xs ys : List ℕ) → length xs ≡ length ys → ((i : ℕ) → i < sum ns → get_or xs i 0 ≡ get_or ys i 0)
    → cut ns xs ≡ cut ns ys
cut-same [] xs ys size h = refl
cut-same (n ∷ ns) xs ys size h =
    rw (
      first,
      cut-same ns (drop n xs) (drop n ys) (rw (length-drop, length-drop, size) refl)
          (λ i l. rw (get_or-drop n xs i 0, get_or-drop n ys i 0) (h (n + i) (omega (arith, total)))),
    ) refl
  where
    total : sum (n ∷ ns) ≡ n + sum ns
    total = sum_by-cons (λ x. x) n ns

    first : take n xs ≡ take n ys
    first =
        ext_get_or 0 (take n xs) (take n ys) (rw (length-take, length-take, size) refl) (λ i l.
        let m : i < n = omega (arith, length-take n xs) in
        rw (get_or-take n xs i 0 m, get_or-take n ys i 0 m) (h i (omega (arith, total))))

-- one more length is one more message
cut-push : (ns : List ℕ) (n : ℕ) (xs : List ℕ) → cut (ns ++ n ∷ []) xs ≡ cut ns xs ++ take n (drop (sum ns) xs) ∷ []
cut-push [] n xs = refl
cut-push (m ∷ ns) n xs =
    let total : sum (m ∷ ns) ≡ m + sum ns = sum_by-cons (λ x. x) m ns in
    let behind : drop (sum ns) (drop m xs) ≡ drop (sum (m ∷ ns)) xs =
    drop-drop (sum ns) m xs ∙ ap (λ k. drop k xs) (sym total) in
    ap (λ (ms : List (List ℕ)). take m xs ∷ ms) (cut-push ns n (drop m xs) ∙ rw behind refl)

-- the bytes from an address on are some of those that are shown
pub bytes-shown : (t : Store) (k n : ℕ) → bytes_at t (most_neg + k) n ≡ take n (drop k (shown t))
bytes-shown t k n =
    let at : most_neg + k - most_neg ≡ k = omega arith in
    let many : k + n - k ≡ n = omega arith in
    rw (at, many)
    (sym (take-map (λ cell. unwrap_or cell 0) n (drop k t))
    ∙ ap (take n) (sym (drop-map (λ cell. unwrap_or cell 0) k t)))

module _ (a b : Machine) (k l : ℕ) (out inp : Offer) (g : IsGiven a b k l out inp) where
  -- the receiver with the message
  abbrev holding : Machine
  holding = record b { store = with_cells b.store inp.buffer (cells a.store out.buffer out.length) }

  -- as it is seen
  abbrev seen_after : Role → Machine
  seen_after role = hidden (filled role l out.length holding)

  kept_behind : (kept : List ℕ) → AreVeils (Sink kept) b → Fits (Sink kept) out inp
      → cut (kept ++ out.length ∷ []) (shown (seen_after (Sink kept)).store)
      ≡ cut kept (shown b.store) ++ bytes_at a.store out.buffer out.length ∷ []
  kept_behind kept v fits =
      cut-push kept out.length (shown t)
      ∙ rw (cut-same kept (shown t) (shown b.store) same_size before, message) refl
    where
      t : Store
      t = (seen_after (Sink kept)).store

      same_size : length (shown t) ≡ length (shown b.store)
      same_size =
          length-map t (λ cell. unwrap_or cell 0)
          ∙ length-hiding_from
          (λ x. is_input (claims_of (filled (Sink kept) l out.length holding).control) (byte_span x))
          most_neg holding.store
          ∙ filled_size a b k l out inp g
          ∙ sym (length-map b.store (λ cell. unwrap_or cell 0))

      before : (i : ℕ) → i < sum kept → get_or (shown t) i 0 ≡ get_or (shown b.store) i 0
      before i h =
          get_or-map (λ cell. unwrap_or cell 0) t i None
          ∙ ap (λ cell. unwrap_or cell 0) (kept_before a b k l out inp g kept v i h)
          ∙ sym (get_or-map (λ cell. unwrap_or cell 0) b.store i None)

      message : take out.length (drop (sum kept) (shown t)) ≡ bytes_at a.store out.buffer out.length
      message =
          let at : most_neg + sum kept ≡ inp.buffer =
          ap (λ (o : Offer). o.buffer) (sink_asks kept b l inp v.held g.asks).1 in
          sym (bytes-shown t (sum kept) out.length)
          ∙ ap (λ x. bytes_at t x out.length) at
          ∙ given-message a b k l out inp g (Sink kept) v fits

  -- the same of a node whose role is a sink's
  pub sink_keeps : (role : Role) (kept : List ℕ) → role ≡ Sink kept → AreVeils role b → Fits role out inp
      → messages_of (role_filled out.length role) (shown (seen_after role).store)
      ≡ messages_of role (shown b.store) ++ bytes_at a.store out.buffer out.length ∷ []
  sink_keeps Processor kept e v fits = cc
  sink_keeps (Source done rest) kept e v fits = cc
  sink_keeps (Sink kept') kept e v fits = kept_behind kept' v fits

-- the law of a message that goes over to a sink
pub sinks_keep_whole : SinksKeepWhole
sinks_keep_whole p w w' f e kept s' reached c is_sink there =
    let after : (s'.role ≡ (given c.out c.sender e.link c.inp c.receiver).role)
    × (s'.machine ≡ (given c.out c.sender e.link c.inp c.receiver).machine) = receiver_after w w' f e s' c there in
    ap (λ (r : Role). messages_of r (shown s'.machine.store)) after.0
    ∙ ap (λ (m : Machine). messages_of (role_filled c.out.length c.receiver.role) (shown m.store)) after.1
    ∙ sink_keeps c.sender.machine c.receiver.machine f.link e.link c.out c.inp
    (copy_given w w' f e (reached_veiled p w reached) c) c.receiver.role kept is_sink
    (reached_veiled p w reached e.node c.receiver c.asks.node).0 c.fits
