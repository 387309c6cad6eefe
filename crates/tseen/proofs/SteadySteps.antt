-- Each step of the rendezvous machine leaves all nodes steady.
use Rattle.std.proofs.Common.{◌≡◌, ◌≢◌, ℕ, ◌≤◌, refl, sym, ap, subst, ◌∙◌, length, Bool, arith}
use Rattle.std.proofs.Common.{◌⊎◌, inl, inr, true, false, Ok, Option, Some, None, List}
use Rattle.std.proofs.lemmas.List.{length-take, length-drop, length-set}
use Rattle.std.proofs.lemmas.List.Elements.{All-take, All-drop}
use Rattle.tword.specs.Accesses.{IsMemorySize}
use Rattle.tword.specs.Words.{most_neg}
use Rattle.tword.specs.Stores.{Store, HoldsBytes, with_cells, cells}
use Rattle.tword.specs.Claims.{is_input}
use Rattle.tword.specs.Touches.{byte_span}
use Rattle.tword.specs.Actions.{Action, run}
use Rattle.tword.proofs.EachCell.{IsCell, all-with_cells, length-put, run_from-bytes}
use Rattle.tlink.specs.Roles.{Role, Processor, Source, Sink, role_woken, woken, role_filled, filled}
use Rattle.tproc.specs.declared.offer.Offer.{Offer}
use Rattle.tproc.specs.Machine.{Machine, claims_of}
use Rattle.tproc.specs.Hidden.{hidden}
use Rattle.tproc.specs.Kinds.{IsSized}
use Rattle.tproc.specs.LinkChannels.{link_end}
use Rattle.tproc.specs.Links.{notice, finish_output, finish_input}
use Rattle.tproc.specs.Placement.{IsPlaced}
use Rattle.tproc.proofs.Handing.{Lies, buffer_lies}
use Rattle.tproc.proofs.KindsStay.{sizes_stay}
use Rattle.tproc.proofs.Leaving.{step-leaves, finish_input-leaves, finish_output-leaves, notice-leaves}
use Rattle.tproc.proofs.Opening.{placed_alike}
use Rattle.tproc.proofs.Pending.{at_some}
use Rattle.tproc.proofs.Placed.{step_keeps_placed, notice_keeps_placed, finish_output_keeps_placed}
use Rattle.tproc.proofs.Placed.{finish_input_keeps_placed}
use Rattle.tproc.proofs.Scripted.{hidden_again}
use Rattle.tnet.specs.Rendezvous.{Node, Configuration, node_of, put_node, marked, marked_at, Local}
use Rattle.tnet.specs.Rendezvous.{Notice, Copy, Wake, Freeze_at, given, Fits}
use Rattle.tnet.proofs.Puts.{found}
use Rattle.tseen.specs.Steps.{IsSteady, IsSteadyNode, AreSteady, StepsKeepSteady}
use Rattle.tseen.proofs.Steady.{hiding_holds, hidden_placed, hidden_sized}

-- a machine that is placed, whose memory has a size of its kind
abbrev IsFirm : Machine → Type 0
IsFirm m = IsPlaced m × IsSized m

-- a steady node is put
put_keeps : (c : Configuration) (n : ℕ) (node : Node) → AreSteady c → IsSteadyNode node → AreSteady (put_node n node c)
put_keeps c n node all one k after h = by (found c n k node after h)
  where
    by : ((k ≡ n) × (after ≡ node)) ⊎ ((k ≢ n) × (node_of c k ≡ Some after)) → IsSteadyNode after
    by (inl e) = subst IsSteadyNode (sym e.1) one
    by (inr e) = all k after e.1

still_four : (node : Node) (l : ℕ) (b : Bool) → length node.copied ≡ 4 → length (marked l b node).copied ≡ 4
still_four node l b h = length-set node.copied l b ∙ h

-- which outputs were copied is no matter
pub marks_keep : (c : Configuration) (n l : ℕ) (b : Bool) (o : Option Node) → node_of c n ≡ o → AreSteady c
    → AreSteady (marked_at n l b c o)
marks_keep c n l b None e all = all
marks_keep c n l b (Some node) e all =
    put_keeps c n (marked l b node) all (let old : IsSteadyNode node = all n node e in
    record {
      bytes = old.bytes;
      copied = still_four node l b old.copied;
      hides = old.hides;
      steady = λ h. record {
        placed = (old.steady h).placed;
        sized = (old.steady h).sized;
        hides = (old.steady h).hides;
      };
    })

-- a node whose machine hides its pending inputs
steady_node : (node : Node) (m : Machine) → node.machine ≡ hidden m → HoldsBytes m.store → length node.copied ≡ 4
    → (node.role ≡ Processor → IsFirm m) → IsSteadyNode node
steady_node node m e bytes copied firm =
    record {
      copied = copied;
      bytes = subst (λ (z : Machine). HoldsBytes z.store) (sym e)
          (hiding_holds (λ a. is_input (claims_of m.control) (byte_span a)) most_neg m.store bytes);
      hides = ap hidden e ∙ hidden_again m ∙ sym e;
      steady = λ h. record {
        placed = subst IsPlaced (sym e) (hidden_placed m (firm h).0);
        sized = subst IsSized (sym e) (hidden_sized m (firm h).1);
        hides = ap hidden e ∙ hidden_again m ∙ sym e;
      };
    }

-- what a processor or a script does leaves bytes
module _ (m : Machine) (bytes : HoldsBytes m.store) where
  stays : (A : Type 0) (x : Action A) (a : A) (t : Store) → run x m.store (claims_of m.control) ≡ Ok (a, t)
      → HoldsBytes t
  stays A x a t e = run_from-bytes x m.store m.store (claims_of m.control) a t bytes e

  noticed_bytes : (l : ℕ) → HoldsBytes (notice l m).store
  noticed_bytes l = notice-leaves HoldsBytes l m bytes stays

  sent_bytes : (l : ℕ) → HoldsBytes (finish_output l m).store
  sent_bytes l = finish_output-leaves HoldsBytes m bytes stays l

  received_bytes : (l : ℕ) → HoldsBytes (finish_input l m).store
  received_bytes l = finish_input-leaves HoldsBytes m bytes stays l

  filled_bytes : (role : Role) (l n : ℕ) → HoldsBytes (filled role l n m).store
  filled_bytes Processor l n = received_bytes l
  filled_bytes (Source over rest) l n = received_bytes l
  filled_bytes (Sink kept) l n = bytes

  woken_bytes : (role : Role) (l : ℕ) → HoldsBytes (woken role l m).store
  woken_bytes Processor l = sent_bytes l
  woken_bytes (Source over rest) l = bytes
  woken_bytes (Sink kept) l = sent_bytes l

-- and leaves a processor placed
noticed_firm : (m : Machine) (l : ℕ) → IsFirm m → IsFirm (notice l m)
noticed_firm m l f = (notice_keeps_placed l m f.0, (sizes_stay m f.0 f.1).notices l)

woken_firm : (m : Machine) (role : Role) (l : ℕ) → (role ≡ Processor → IsFirm m) → role_woken role ≡ Processor
    → IsFirm (woken role l m)
woken_firm m Processor l f h =
    (finish_output_keeps_placed l m (f refl).0, (sizes_stay m (f refl).0 (f refl).1).outputs l)
woken_firm m (Source over rest) l f h = absurd (differ h)
  where
    differ : {a b : List ℕ} → Source a b ≡ Processor → ⊥
    differ e = cc
woken_firm m (Sink kept) l f h = absurd (differ h)
  where
    differ : {a : List ℕ} → Sink a ≡ Processor → ⊥
    differ e = cc

filled_firm : (m : Machine) (role : Role) (l n k : ℕ) → (role ≡ Processor → IsFirm m) → role_filled k role ≡ Processor
    → IsFirm (filled role l n m)
filled_firm m Processor l n k f h =
    (finish_input_keeps_placed l m (f refl).0, (sizes_stay m (f refl).0 (f refl).1).inputs l)
filled_firm m (Source over rest) l n k f h = absurd (differ h)
  where
    differ : {a b : List ℕ} → Source a b ≡ Processor → ⊥
    differ e = cc
filled_firm m (Sink kept) l n k f h = absurd (differ h)
  where
    differ : {a : List ℕ} → Sink a ≡ Processor → ⊥
    differ e = cc

-- cells of a store that holds bytes
pub cells_hold : (s : Store) (a n : ℕ) → HoldsBytes s → HoldsBytes (cells s a n)
cells_hold s a n h = All-take IsCell _ _ (All-drop IsCell _ _ h)

few_cells : (s : Store) (a n : ℕ) → length (cells s a n) ≤ n
few_cells s a n = rw (length-take, length-drop) (omega arith)

-- a message goes into the buffer of an input
module _ (sender receiver : Node) (out inp : Offer) (l : ℕ)
    (asks : (link_end receiver.machine.control l).input ≡ Some inp) (first : IsSteadyNode sender)
    (second : IsSteadyNode receiver) where
  abbrev new : Store
  new = cells sender.machine.store out.buffer out.length

  abbrev holding : Machine
  holding = record receiver.machine { store = with_cells receiver.machine.store inp.buffer new }

  held_bytes : HoldsBytes holding.store
  held_bytes =
      all-with_cells IsCell (λ b h. h) receiver.machine.store inp.buffer new second.bytes
      (cells_hold sender.machine.store out.buffer out.length first.bytes)

  same_length : (role : Role) → role ≡ Processor → Fits role out inp → out.length ≡ inp.length
  same_length Processor e h = h
  same_length (Source over rest) e h = h
  same_length (Sink kept) e h = absurd (differ e)
    where
      differ : {a : List ℕ} → Sink a ≡ Processor → ⊥
      differ e = cc

  held_firm : Fits receiver.role out inp → receiver.role ≡ Processor → IsFirm holding
  held_firm fits role = (
    placed_alike receiver.machine holding.store steady.placed size held_bytes,
    record { size = subst (λ z. IsMemorySize receiver.machine.control.kind z) (sym size) steady.sized.size },
  )
    where
      steady : IsSteady receiver
      steady = second.steady role

      lies : Lies (length receiver.machine.store) inp
      lies =
          buffer_lies (length receiver.machine.store) inp
          (at_some (link_end receiver.machine.control l).input _ inp asks (steady.placed.claimed.inputs l)).1

      size : length holding.store ≡ length receiver.machine.store
      size =
          length-put receiver.machine.store inp.buffer new
          (inr (
            lies.above,
            omega (
              arith,
              lies.within,
              few_cells sender.machine.store out.buffer out.length,
              same_length receiver.role role fits,
            ),
          ))

  given_steady : Fits receiver.role out inp → IsSteadyNode (given out sender l inp receiver)
  given_steady fits =
      steady_node (given out sender l inp receiver) (filled receiver.role l out.length holding) refl
      (filled_bytes holding held_bytes receiver.role l out.length) second.copied
      (filled_firm holding receiver.role l out.length out.length (held_firm fits))

-- what a processor is
firm_of : (node : Node) → IsSteadyNode node → node.role ≡ Processor → IsFirm node.machine
firm_of node k h = ((k.steady h).placed, (k.steady h).sized)

-- each step
pub steps_keep_steady : StepsKeepSteady
steps_keep_steady c c' (Local n) l all =
    let old : IsSteadyNode l.node = all n l.node l.here in
    subst AreSteady (sym l.after) (put_keeps c n (record l.node { machine = hidden l.machine }) all
    (steady_node (record l.node { machine = hidden l.machine }) l.machine refl
    (step-leaves HoldsBytes l.node.machine old.bytes (stays l.node.machine old.bytes) l.machine l.ran l.steps)
    old.copied (λ h. (
      step_keeps_placed l.node.machine l.machine l.ran (old.steady h).placed l.steps,
      (sizes_stay l.node.machine (old.steady h).placed (old.steady h).sized).steps l.machine l.ran l.steps,
    ))))
steps_keep_steady c c' (Notice e) l all =
    let old : IsSteadyNode l.node = all e.node l.node l.here in
    subst AreSteady (sym l.after) (put_keeps c e.node
    (record l.node { machine = hidden (notice e.link l.node.machine) })
    all (steady_node (record l.node { machine = hidden (notice e.link l.node.machine) })
    (notice e.link l.node.machine) refl
    (noticed_bytes l.node.machine old.bytes e.link) old.copied
    (λ h. noticed_firm l.node.machine e.link (firm_of l.node old h))))
steps_keep_steady c c' (Copy f e) l all =
    subst AreSteady (sym l.after) (marks_keep (put_node e.node (given l.out l.sender e.link l.inp l.receiver) c) f.node
    f.link true (node_of (put_node e.node (given l.out l.sender e.link l.inp l.receiver) c) f.node) refl
    (put_keeps c e.node (given l.out l.sender e.link l.inp l.receiver) all
    (given_steady l.sender l.receiver l.out l.inp e.link l.asks.input (all f.node l.sender l.offers.node)
    (all e.node l.receiver l.asks.node) l.fits)))
steps_keep_steady c c' (Wake f) l all =
    let old : IsSteadyNode l.node = all f.node l.node l.copied.node in
    subst AreSteady (sym l.after) (put_keeps c f.node
    (marked f.link false (record l.node {
      role = role_woken l.node.role;
      machine = hidden (woken l.node.role f.link
          l.node.machine);
    })) all (steady_node
    (marked f.link false (record l.node {
      role = role_woken l.node.role;
      machine = hidden (woken l.node.role f.link
          l.node.machine);
    })) (woken l.node.role f.link l.node.machine) refl
    (woken_bytes l.node.machine old.bytes l.node.role f.link) (still_four l.node f.link false old.copied)
    (woken_firm l.node.machine l.node.role f.link (firm_of l.node old))))
steps_keep_steady c c' (Freeze_at n b) l all =
    let old : IsSteadyNode l.node = all n l.node l.here in
    subst AreSteady (sym l.after) (put_keeps c n (record l.node { broken = Some b }) all (record {
      bytes = old.bytes;
      copied = old.copied;
      hides = old.hides;
      steady = λ h. record {
        placed = (old.steady h).placed;
        sized = (old.steady h).sized;
        hides = (old.steady h).hides;
      };
    }))
