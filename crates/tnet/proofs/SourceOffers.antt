-- When a number of its messages are over, a source offers the next one, byte for byte, and its memory is unchanged.
use Rattle.std.proofs.Common.{◌≡◌, ◌≢◌, ℕ, zero, suc, ◌+◌, ◌-◌, refl, sym, ap, ◌∙◌, subst, List, [], ◌∷◌, ◌++◌, length}
use Rattle.std.proofs.Common.{map}
use Rattle.std.proofs.Common.{take, drop, Bool, true, false, Option, Some, None, ◌⊎◌, inl, inr, arith}
use Rattle.std.specs.Prelude.{sum, slice_get, option_map}
use Rattle.std.specs.List.{concat}
use Rattle.std.proofs.Math.Seq.{take-append_seam, drop-append-add}
use Rattle.std.proofs.lemmas.Bool.{cases_eq, ne_eqb, eq-eqb}
use Rattle.std.proofs.lemmas.List.{length-map}
use Rattle.std.proofs.lemmas.List.Sums.{sum_by-cons, sum_by_push}
use Rattle.std.proofs.lemmas.Option.{same_Some, slice_get-map}
use Rattle.tword.specs.Words.{most_neg}
use Rattle.tword.specs.Stores.{Store, as_cells, bytes_at, hiding_from}
use Rattle.tword.specs.Claims.{is_input}
use Rattle.tword.specs.Touches.{byte_span}
use Rattle.tproc.specs.declared.offer.Offer.{Offer}
use Rattle.tproc.specs.Machine.{Machine, claims_of}
use Rattle.tproc.specs.LinkChannels.{link_end}
use Rattle.tproc.specs.Hidden.{hidden}
use Rattle.tlink.specs.Roles.{Role, Processor, Source, script_control, script_machine, first_offer, offering, receives}
use Rattle.tlink.specs.Roles.{role_woken, woken}
use Rattle.tlink.specs.Node.{NodeState, fresh_source, fresh_sink}
use Rattle.tlink.proofs.Held.{script-step, script-else}
use Rattle.tlink.proofs.Sinks.{shown_cells}
use Rattle.tlink.proofs.Sources.{rest_none, rest_some}
use Rattle.tplan.specs.declared.plan.End.{End}
use Rattle.tplan.specs.declared.plan.Plan.{Plan}
use Rattle.tplan.specs.declared.plan.SourcePlan.{SourcePlan}
use Rattle.tplan.specs.declared.plan.SinkPlan.{SinkPlan}
use Rattle.tplan.specs.declared.event.Note.{Note}
use Rattle.tplan.specs.Wires.{end_at}
use Rattle.tnet.specs.Rendezvous.{Node, Configuration, Step, Local, Notice, Copy, Wake, Freeze_at, node_of, put_node}
use Rattle.tnet.specs.Rendezvous.{copied_at, given, marked, Lawful, IsRun}
use Rattle.tnet.specs.Building.{machines_of, opened_machine, opening_configuration, opening_node, fresh_scripts}
use Rattle.tnet.specs.Corollaries.{SourcesOffer, is_wake_of, wakes_of}
use Rattle.tnet.proofs.KeptMessages.{bytes-shown}
use Rattle.tnet.proofs.PlannedWires.{slice_left, slice_past}
use Rattle.tnet.proofs.Puts.{found}
use Rattle.tnet.proofs.Reached.{copied_node}
use Rattle.tnet.proofs.VeiledRoles.{not_idle}

-- nothing is hidden of a source, for it asks for nothing
hiding_nothing : (f : ℕ → Bool) (a : ℕ) (s : Store) → ((b : ℕ) → f b ≡ false) → hiding_from f a s ≡ s
hiding_nothing f a [] h = refl
hiding_nothing f a (cell ∷ s) h = rw (h a, hiding_nothing f (suc a) s h) refl

source-hidden : (a : ℕ) (ns bytes : List ℕ)
    → hidden (script_machine (offering a ns) bytes) ≡ script_machine (offering a ns) bytes
source-hidden a ns bytes =
    ap (λ (s : Store). record (script_machine (offering a ns) bytes) { store = s })
    (hiding_nothing (λ x. is_input (claims_of (script_control (offering a ns))) (byte_span x)) most_neg
    (as_cells bytes) (λ b. refl))

asks_nothing : (a : ℕ) (ns : List ℕ) (l : ℕ) → (link_end (script_control (offering a ns)) l).input ≡ None
asks_nothing a ns zero = refl
asks_nothing a ns (suc l) = rw (script-else (offering a ns) l) refl

-- the messages that are over, with one more
take_next : (xs : List ℕ) (k : ℕ) → take k xs ++ take 1 (drop k xs) ≡ take (suc k) xs
take_next [] zero = refl
take_next [] (suc k) = refl
take_next (x ∷ xs) zero = refl
take_next (x ∷ xs) (suc k) = ap (λ (ys : List ℕ). x ∷ ys) (take_next xs k)

drop_next : (xs : List ℕ) (k : ℕ) → drop 1 (drop k xs) ≡ drop (suc k) xs
drop_next [] zero = refl
drop_next [] (suc k) = refl
drop_next (x ∷ xs) zero = refl
drop_next (x ∷ xs) (suc k) = drop_next xs k

-- where a message lies among all of them
message_at : (ms : List (List ℕ)) (k : ℕ) (m : List ℕ) → slice_get ms k ≡ Some m
    → take (length m) (drop (sum (take k (map length ms))) (concat ms)) ≡ m
message_at [] k m h = cc
message_at (x ∷ xs) zero m h = let e : x ≡ m = same_Some _ _ h in rw (← e) (take-append_seam x (concat xs))
message_at (x ∷ xs) (suc k) m h =
    let total : sum (length x ∷ take k (map length xs)) ≡ length x + sum (take k (map length xs)) =
    sum_by-cons (λ n. n) (length x) (take k (map length xs)) in
    rw (total, drop-append-add x (concat xs) (sum (take k (map length xs)))) (message_at xs k m h)

-- the bytes of what is offered, with k messages over
next_message : (ms : List (List ℕ)) (k : ℕ)
    → option_map (λ (o : Offer). bytes_at (as_cells (concat ms)) o.buffer o.length)
    (first_offer (most_neg + sum (take k (map length ms))) (drop k (map length ms))) ≡ slice_get ms k
next_message ms k = by (slice_get ms k) refl
  where
    by : (x : Option (List ℕ)) → slice_get ms k ≡ x
        → option_map (λ (o : Offer). bytes_at (as_cells (concat ms)) o.buffer o.length)
        (first_offer (most_neg + sum (take k (map length ms))) (drop k (map length ms))) ≡ x
    by None e =
        rw (rest_none (map length ms) k (slice_get-map (λ (m : List ℕ). length m) ms k ∙ rw e refl)) refl
    by (Some m) e =
        rw (rest_some (map length ms) k (length m) (slice_get-map (λ (m : List ℕ). length m) ms k ∙ rw e refl))
        (ap (λ (bytes : List ℕ). Some bytes)
        (bytes-shown (as_cells (concat ms)) (sum (take k (map length ms))) (length m)
        ∙ rw (shown_cells (concat ms)) (message_at ms k m e)))

-- a source of these messages, of which the first k are over
record IsSourceAt (messages : List (List ℕ)) (k : ℕ) (role : Role) (m : Machine) : Type 0 where
  role_is : role ≡ Source (take k (map length messages)) (drop k (map length messages))
  machine_is : m
      ≡ script_machine
      (offering (most_neg + sum (take k (map length messages))) (drop k (map length messages)))
      (concat messages)

-- what is left when the output of a source is over
woken_is : (over rest : List ℕ) (a : ℕ) (bytes : List ℕ) (l : ℕ) (o : Offer)
    → (link_end (script_control (offering a rest)) l).output ≡ Some o
    → (l ≡ 0) × (n : ℕ) × (take 1 rest ≡ n ∷ [])
    × (hidden (woken (Source over rest) l (script_machine (offering a rest) bytes))
    ≡ script_machine (offering (a + n) (drop 1 rest)) bytes)
woken_is over rest a bytes (suc l) o h = let e : None ≡ Some o = rw (script-else (offering a rest) l) at h in cc
woken_is over [] a bytes zero o h = cc
woken_is over (n ∷ ns) a bytes zero o h = (refl, n, refl, source-hidden (a + n) ns bytes)

module _ (messages : List (List ℕ)) where
  -- a node that goes on to its next message
  goes_on : (k l : ℕ) (role : Role) (m : Machine) (o : Offer) → IsSourceAt messages k role m
      → (link_end m.control l).output ≡ Some o
      → (l ≡ 0) × IsSourceAt messages (suc k) (role_woken role) (hidden (woken role l m))
  goes_on k l role m o at out =
      let lengths : List ℕ = map length messages in
      let over : List ℕ = take k lengths in
      let rest : List ℕ = drop k lengths in
      let a : ℕ = most_neg + sum over in
      let out' : (link_end (script_control (offering a rest)) l).output ≡ Some o =
      sym (ap (λ (x : Machine). (link_end x.control l).output) at.machine_is) ∙ out in
      let p = woken_is over rest a (concat messages) l o out' in
      let one : take (suc k) lengths ≡ over ++ p.1 ∷ [] =
      sym (take_next lengths k) ∙ ap (λ (xs : List ℕ). over ++ xs) p.2 in
      let total : sum (take (suc k) lengths) ≡ sum over + p.1 =
      ap sum one ∙ sum_by_push (λ n. n) over p.1 in (
        p.0,
        record {
          role_is =
              rw at.role_is (rw (take_next lengths k, drop_next lengths k) refl);
          machine_is =
              rw (at.role_is, at.machine_is)
              (p.3 ∙ ap (λ (x : ℕ). script_machine (offering x (drop 1 rest)) (concat messages)) (omega (arith, total))
              ∙ ap (λ (ns : List ℕ). script_machine (offering (most_neg + sum (take (suc k) lengths)) ns) (concat
              messages))
              (drop_next lengths k));
        },
      )

  -- the node of this number is one
  abbrev IsAt : Configuration → ℕ → ℕ → Type 0
  IsAt w n k = (s : Node) → node_of w n ≡ Some s → IsSourceAt messages k s.role s.machine

  put_at : (w : Configuration) (m n k : ℕ) (s : Node) → IsAt w n k
      → (n ≡ m → IsSourceAt messages k s.role s.machine) → IsAt (put_node m s w) n k
  put_at w m n k s h new t there = by (found w m n s t there)
    where
      by : ((n ≡ m) × (t ≡ s)) ⊎ ((n ≢ m) × (node_of w n ≡ Some t)) → IsSourceAt messages k t.role t.machine
      by (inl p) = rw p.1 (new p.0)
      by (inr p) = h t p.1

  same_at : (k : ℕ) (role role' : Role) (m m' : Machine) → role' ≡ role → m' ≡ m → IsSourceAt messages k role m
      → IsSourceAt messages k role' m'
  same_at k role role' m m' a b h = rw (a, b) h

  copied_stays : (f : End) (w : Configuration) (n k : ℕ) → IsAt w n k → IsAt (copied_at f w) n k
  copied_stays f w n k h s there =
      let x : (x : Node) × (node_of w n ≡ Some x) × (s.role ≡ x.role) × (s.machine ≡ x.machine) =
      copied_node f w n s there in
      same_at k x.0.role s.role x.0.machine s.machine x.2 x.3 (h x.0 x.1)

  -- a step wakes it, or leaves it as it is
  abbrev IsLeft : Configuration → ℕ → ℕ → Step → Type 0
  IsLeft w n k t = ((is_wake_of (end_at n 0) t ≡ false) × IsAt w n k)
      ⊎ ((is_wake_of (end_at n 0) t ≡ true) × IsAt w n (suc k))

  step_at : (w w' : Configuration) (n k : ℕ) (t : Step) → IsAt w n k → Lawful w t w' → IsLeft w' n k t
  step_at w w' n k (Local m) h law =
      rw law.after (inl (
        refl,
        put_at w m n k _ h (λ e.
            let at : IsSourceAt messages k law.node.role law.node.machine = h law.node (rw e law.here) in
            absurd (not_idle law.node.machine law.machine law.ran
            (script-step _ law.node.machine (ap (λ (x : Machine). x.control) at.machine_is)) law.steps law.is_step)),
      ))
  step_at w w' n k (Notice e) h law =
      rw law.after (inl (
        refl,
        put_at w e.node n k _ h (λ same.
            let at : IsSourceAt messages k law.node.role law.node.machine = h law.node (rw same law.here) in
            let f : false ≡ true = sym (ap receives at.role_is) ∙ law.listens in cc),
      ))
  step_at w w' n k (Copy f e) h law =
      rw law.after (inl (
        refl,
        copied_stays f (put_node e.node (given law.out law.sender e.link law.inp law.receiver) w) n k
            (put_at w e.node n k _ h (λ same.
            let at : IsSourceAt messages k law.receiver.role law.receiver.machine =
            h law.receiver (rw same law.asks.node) in
            let g : None ≡ Some law.inp =
            sym (asks_nothing (most_neg + sum (take k (map length messages))) (drop k (map length messages)) e.link)
            ∙ sym (ap (λ (x : Machine). (link_end x.control e.link).input) at.machine_is) ∙ law.asks.input in
            absurd (nothing _ g))),
      ))
    where
      nothing : (o : Offer) → None ≡ Some o → ⊥
      nothing o g = cc
  step_at w w' n k (Wake f) h law = rw law.after (by (cases_eq f.node n))
    where
      left : Configuration
      left = put_node f.node
          (marked f.link false
          (record law.node {
            role = role_woken law.node.role;
            machine = hidden (woken law.node.role f.link law.node.machine);
          })) w

      by : (f.node ≡ n) ⊎ (f.node ≡ n → ⊥) → IsLeft left n k (Wake f)
      by (inl e) =
          let at : IsSourceAt messages k law.node.role law.node.machine = h law.node (rw (← e) law.copied.node) in
          let p = goes_on k f.link law.node.role law.node.machine law.out at law.copied.output in
          inr (rw (eq-eqb f.node n e, eq-eqb f.link 0 p.0) refl, λ s there. one (found w f.node n _ s there) p.1)
        where
          one : {s : Node} {t : Node} → ((n ≡ f.node) × (s ≡ t)) ⊎ ((n ≢ f.node) × (node_of w n ≡ Some s))
              → IsSourceAt messages (suc k) t.role t.machine → IsSourceAt messages (suc k) s.role s.machine
          one (inl p) at = rw p.1 at
          one (inr p) at = absurd (p.0 (sym e))
      by (inr e) =
          inl (rw (ne_eqb f.node n e) refl, put_at w f.node n k _ h (λ same. absurd (e (sym same))))
  step_at w w' n k (Freeze_at m b) h law =
      rw law.after (inl (refl, put_at w m n k _ h (λ e. h law.node (rw e law.here))))

  -- the same after a run
  run_at : (w w' : Configuration) (n k : ℕ) (steps : List Step) (notes : List Note) → IsAt w n k
      → IsRun w steps notes w' → IsAt w' n (k + wakes_of (end_at n 0) steps)
  run_at w w' n k [] notes h r =
      let e : k + 0 ≡ k = omega arith in rw e (subst (λ (x : Configuration). IsAt x n k) r.1 h)
  run_at w w' n k (t ∷ ts) notes h r =
      by (step_at w r.0 n k t h r.2) (λ stays. run_at r.0 w' n k ts r.1 stays r.4)
      (λ woken. run_at r.0 w' n (suc k) ts r.1 woken r.4)
    where
      by : IsLeft r.0 n k t → (IsAt r.0 n k → IsAt w' n (k + wakes_of (end_at n 0) ts))
          → (IsAt r.0 n (suc k) → IsAt w' n (suc k + wakes_of (end_at n 0) ts))
          → IsAt w' n (k + wakes_of (end_at n 0) (t ∷ ts))
      by (inl p) stays woken = rw p.0 (stays p.1)
      by (inr p) stays woken =
          let e : k + suc (wakes_of (end_at n 0) ts) ≡ suc k + wakes_of (end_at n 0) ts = omega arith in
          rw (p.0, e) (woken p.1)

-- behind the nodes of a plan stand its sources
opened_at : (p : Plan) (place : ℕ) (source : SourcePlan) → slice_get p.sources place ≡ Some source
    → IsAt source.messages (opening_configuration p) (length p.nodes + place) 0
unfolding machines_of
opened_at p place source there s here =
    let processors : List Node = map (opening_node Processor) (machines_of p) in
    let count : length processors ≡ length p.nodes =
    length-map (machines_of p) (opening_node Processor) ∙ length-map p.nodes (opened_machine p.timeslice) in
    let behind : length p.nodes + place - length processors ≡ place = omega (arith, count) in
    let seen : NodeState → Node = λ n. opening_node n.role (hidden n.machine) in
    let lengths : List ℕ = map length source.messages in
    let e : slice_get (fresh_scripts p) place ≡ Some (fresh_source source.messages) =
    slice_left (map (λ (x : SourcePlan). fresh_source x.messages) p.sources)
    (map (λ (x : SinkPlan). fresh_sink x.capacity) p.sinks) place (fresh_source source.messages)
    (slice_get-map (λ (x : SourcePlan). fresh_source x.messages) p.sources place ∙ rw there refl) in
    let is : Some (seen (fresh_source source.messages)) ≡ Some s =
    sym (slice_past processors (map seen (fresh_scripts p)) (length p.nodes + place) (omega (arith, count))
    ∙ ap (λ (k : ℕ). slice_get (map seen (fresh_scripts p)) k) behind
    ∙ slice_get-map seen (fresh_scripts p) place ∙ rw e refl) ∙ here in
    let node : seen (fresh_source source.messages) ≡ s = same_Some _ _ is in
    rw (← node)
    (record {
      role_is = refl;
      machine_is =
          source-hidden most_neg lengths (concat source.messages)
          ∙ ap (λ (a : ℕ). script_machine (offering a lengths) (concat source.messages)) (omega arith);
    })

-- the law of a source's messages
pub sources_offer : SourcesOffer
sources_offer p w place source s r there here =
    let k : ℕ = wakes_of (end_at (length p.nodes + place) 0) r.steps in
    let e : 0 + k ≡ k = omega arith in
    let at : IsSourceAt source.messages k s.role s.machine =
    subst (λ (n : ℕ). IsSourceAt source.messages n s.role s.machine) e
    (run_at source.messages (opening_configuration p) w (length p.nodes + place) 0 r.steps r.notes
    (opened_at p place source there) r.run s here) in (
      ap (λ (m : Machine). option_map (λ (o : Offer). bytes_at m.store o.buffer o.length) (link_end m.control 0).output)
          at.machine_is
          ∙ next_message source.messages k,
      ap (λ (m : Machine). m.store) at.machine_is,
    )
