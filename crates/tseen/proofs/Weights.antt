-- How many steps of the rendezvous machine that change nothing that is shown may come one after another.
use Rattle.std.proofs.Common.{◌≡◌, ◌≢◌, ℕ, zero, suc, ◌+◌, ◌*◌, ◌<◌, ◌≤◌, refl, sym, ap, subst, ◌∙◌, List, [], ◌∷◌}
use Rattle.std.proofs.Common.{length}
use Rattle.std.proofs.Common.{Bool, true, false, not, set, get_or, Result, Ok, Option, Some, None, arith}
use Rattle.std.specs.Prelude.{is_some, slice_get, slice_index_or}
use Rattle.std.proofs.lemmas.List.{get_or-set_same, get_or-set_other}
use Rattle.std.proofs.lemmas.Option.{same_Some}
use Rattle.tproc.specs.declared.offer.Offer.{Offer}
use Rattle.tproc.specs.declared.ran.Ran.TheVariants as ran
use Rattle.tproc.specs.declared.waiter.LinkEnd.{LinkEnd}
use Rattle.tproc.specs.declared.waiter.Suspended.{Suspended}
use Rattle.tword.specs.Claims.{Claims}
use Rattle.tword.proofs.Leads.{Leads, leads_run}
use Rattle.tproc.specs.Machine.{Control, Machine, claims_of, workspace_of, priority_of}
use Rattle.tproc.specs.Hidden.{hidden}
use Rattle.tproc.specs.LinkChannels.{link_end, quiet_end}
use Rattle.tproc.specs.Links.{notice, wakes, finish_output}
use Rattle.tproc.specs.Queues.{appended, without_waiter, release, resumed}
use Rattle.tproc.specs.Steps.{step}
use Rattle.tproc.proofs.ClaimMoves.{enqueue_to}
use Rattle.tproc.proofs.Leaving.{notify-gives}
use Rattle.tproc.proofs.LinkClaims.{noticing}
use Rattle.tproc.proofs.Noticing.{notice-links}
use Rattle.tlink.specs.Roles.{Role, Processor, Source, woken}
use Rattle.tnet.specs.Rendezvous.{Node, Configuration, node_of, put_node, marked, was_copied, IsLocal}
use Rattle.treduction.proofs.LinkActions.{finish_output_is, without_out}
use Rattle.tseen.proofs.Copies.{some_is}
use Rattle.tseen.proofs.SetLinks.{alike}

abbrev one_if : Bool → ℕ
one_if true = 1
one_if false = 0

abbrev of_four : (ℕ → ℕ) → ℕ
of_four f = f 0 + f 1 + f 2 + f 3

-- a link that may still notice an offer, and one whose output may be over
abbrev quiet : Control → ℕ → ℕ
quiet m l = one_if (not (link_end m l).noticed)

abbrev copied_at : Node → ℕ → ℕ
copied_at node l = one_if (was_copied node l)

-- the notices, wakes and resumptions that a node may have
abbrev pub weight : Node → ℕ
weight node =
    of_four (quiet node.machine.control) + of_four (copied_at node)
    + one_if (is_some node.machine.control.interrupted)

abbrev total : List Node → ℕ
total [] = 0
total (x ∷ xs) = weight x + total xs

-- and all nodes
abbrev pub weight_of : Configuration → ℕ
weight_of c = total c.nodes

one_small : (b : Bool) → one_if b ≤ 1
one_small true = omega arith
one_small false = omega arith

four_small : (f : ℕ → ℕ) → ((l : ℕ) → f l ≤ 1) → of_four f ≤ 4
four_small f h = omega (arith, h 0, h 1, h 2, h 3)

weight_small : (node : Node) → weight node ≤ 9
weight_small node =
    let a : of_four (quiet node.machine.control) ≤ 4 = four_small (quiet node.machine.control) (λ l. one_small _) in
    let b : of_four (copied_at node) ≤ 4 = four_small (copied_at node) (λ l. one_small _) in
    omega (arith, a, b, one_small (is_some node.machine.control.interrupted))

total_small : (xs : List Node) → total xs ≤ 9 * length xs
total_small [] = omega arith
total_small (x ∷ xs) = omega (arith, weight_small x, total_small xs)

pub few_of : (c : Configuration) → weight_of c ≤ 9 * length c.nodes
few_of c = total_small c.nodes

put_total : (xs : List Node) (n : ℕ) (old new : Node) → slice_get xs n ≡ Some old
    → total (set xs n new) + weight old ≡ total xs + weight new
put_total [] n old new h = cc
put_total (x ∷ xs) zero old new h =
    let e : weight x ≡ weight old = ap weight (same_Some x old h) in omega (arith, e)
put_total (x ∷ xs) (suc n) old new h = omega (arith, put_total xs n old new h)

-- a node that is lighter is put
pub put_lighter : (c c' : Configuration) (n : ℕ) (old new : Node) → node_of c n ≡ Some old → c' ≡ put_node n new c
    → suc (weight new) ≡ weight old → weight_of c' < weight_of c
put_lighter c c' n old new here after h =
    subst (λ (z : Configuration). weight_of z < weight_of c) (sym after)
    (omega (arith, put_total c.nodes n old new here, h))

four_less : (f g : ℕ → ℕ) (l : ℕ) → l < 4 → suc (g l) ≡ f l → ((j : ℕ) → j ≢ l → g j ≡ f j)
    → suc (of_four g) ≡ of_four f
four_less f g zero h e o = omega (arith, e, o 1 (λ z. cc), o 2 (λ z. cc), o 3 (λ z. cc))
four_less f g (suc zero) h e o = omega (arith, e, o 0 (λ z. cc), o 2 (λ z. cc), o 3 (λ z. cc))
four_less f g (suc (suc zero)) h e o = omega (arith, e, o 0 (λ z. cc), o 1 (λ z. cc), o 3 (λ z. cc))
four_less f g (suc (suc (suc zero))) h e o = omega (arith, e, o 0 (λ z. cc), o 1 (λ z. cc), o 2 (λ z. cc))
four_less f g (suc (suc (suc (suc l)))) h e o = absurd (omega (arith, h))

four_same : (f g : ℕ → ℕ) → ((j : ℕ) → g j ≡ f j) → of_four g ≡ of_four f
four_same f g o = omega (arith, o 0, o 1, o 2, o 3)

-- releasing a process, or telling one of a notice, leaves whoever was interrupted
held_stays : (w q : ℕ) (m : Control) → (appended w q m).interrupted ≡ m.interrupted
held_stays w zero m = refl
held_stays w (suc q) m = refl

abbrev HeldAs : Option Suspended → Claims → Control → Type 0
HeldAs o d m = m.interrupted ≡ o

release_held : (n process : ℕ) (m : Control) (c : Claims) → Leads n (HeldAs m.interrupted) c (release process m)
unfolding release
release_held n process m c =
    enqueue_to n (λ m'. m'.interrupted ≡ m.interrupted) process (without_waiter process m) c
    (held_stays (workspace_of process) (priority_of process) (without_waiter process m))

notice_held : (l : ℕ) (n : Machine) → (notice l n).control.interrupted ≡ n.control.interrupted
unfolding notice
notice_held l n =
    notify-gives (λ (z : Machine). z.control.interrupted ≡ n.control.interrupted) (noticing l n) refl
    (λ process m t s e. (leads_run (HeldAs n.control.interrupted) (wakes process (noticing l n).control)
    (noticing l n).store (noticing l n).store (claims_of (noticing l n).control) m t
    (release_held (length (noticing l n).store) process (noticing l n).control (claims_of (noticing l n).control)) e).1)
    (λ A x a t e. refl) (link_end n.control l).remembered

-- a notice
pub notice_lighter : (node : Node) (l : ℕ) → l < 4 → length node.machine.control.links ≡ 4
    → (link_end node.machine.control l).noticed ≡ false
    → suc (weight (record node { machine = hidden (notice l node.machine) })) ≡ weight node
notice_lighter node l small four fresh =
    omega (
      arith,
      less,
      four_same (quiet (noticing l node.machine).control) (quiet (notice l node.machine).control)
          (λ j. ap (λ (ls : List LinkEnd). one_if (not (slice_index_or ls j quiet_end).noticed))
          (notice-links l node.machine)),
      ap (λ (o : Option Suspended). one_if (is_some o)) (notice_held l node.machine),
    )
  where
    m : Control
    m = node.machine.control

    e : LinkEnd
    e = record (link_end node.machine.control l) { noticed = true; remembered = None }

    own : quiet (noticing l node.machine).control l ≡ 0
    own =
        ap (λ (z : LinkEnd). one_if (not z.noticed))
        (get_or-set_same node.machine.control.links l
        (record (link_end node.machine.control l) { noticed = true; remembered = None }) quiet_end
        (subst (λ z. l < z) (sym four) small))

    was : quiet node.machine.control l ≡ 1
    was = ap (λ b. one_if (not b)) fresh

    less : suc (of_four (quiet (noticing l node.machine).control)) ≡ of_four (quiet node.machine.control)
    less =
        four_less (quiet node.machine.control) (quiet (noticing l node.machine).control) l small
        (ap suc own ∙ sym was) (λ j h.
        ap (λ (z : LinkEnd). one_if (not z.noticed))
        (get_or-set_other node.machine.control.links l j
        (record (link_end node.machine.control l) { noticed = true; remembered = None }) quiet_end h))

-- a wake
pub wake_lighter : (node : Node) (role : Role) (m : Machine) (l : ℕ) → l < 4 → length node.copied ≡ 4
    → was_copied node l ≡ true
    → ((j : ℕ) → (link_end m.control j).noticed ≡ (link_end node.machine.control j).noticed)
    → m.control.interrupted ≡ node.machine.control.interrupted
    → suc (weight (marked l false (record node { role = role; machine = hidden m }))) ≡ weight node
wake_lighter node role m l small four copied noticed held =
    omega (
      arith,
      less,
      four_same (quiet node.machine.control) (quiet m.control) (λ j. ap (λ b. one_if (not b)) (noticed j)),
      ap (λ (o : Option Suspended). one_if (is_some o)) held,
    )
  where
    new : Node
    new = marked l false (record node { role = role; machine = hidden m })

    own : one_if (get_or (set node.copied l false) l false) ≡ 0
    own = ap one_if (get_or-set_same node.copied l false false (subst (λ z. l < z) (sym four) small))

    less : suc (of_four (λ j. one_if (get_or (set node.copied l false) j false))) ≡ of_four (copied_at node)
    less =
        four_less (copied_at node) (λ j. one_if (get_or (set node.copied l false) j false)) l small
        (ap suc own ∙ sym (ap one_if copied)) (λ j h. ap one_if (get_or-set_other node.copied l j false false h))

-- of a processor
links_stay : (w q : ℕ) (m : Control) → (appended w q m).links ≡ m.links
links_stay w zero m = refl
links_stay w (suc q) m = refl

pub processor_lighter : (node : Node) (l : ℕ) (o : Offer) → node.role ≡ Processor
    → (link_end node.machine.control l).output ≡ Some o → l < 4 → length node.copied ≡ 4 → was_copied node l ≡ true
    → (role : Role)
    → suc (weight (marked l false (record node { role = role; machine = hidden (woken node.role l node.machine) })))
    ≡ weight node
processor_lighter node l o is out small four copied role =
    subst (λ (r : Role). suc (weight (marked l false (record node {
      role = role;
      machine = hidden (woken r l node.machine);
    }))) ≡ weight node) (sym is)
    (wake_lighter node role (finish_output l node.machine) l small four copied
    (λ j. ap (λ (z : Machine). (link_end z.control j).noticed) (finish_output_is l node.machine o out)
    ∙ ap (λ ls. (get_or ls j quiet_end).noticed)
    (links_stay (workspace_of o.wdesc) (priority_of o.wdesc)
    (without_waiter o.wdesc (without_out l node.machine.control)))
    ∙ alike (λ (e : LinkEnd). e.noticed) node.machine.control.links l j _ refl)
    (ap (λ (z : Machine). z.control.interrupted) (finish_output_is l node.machine o out)
    ∙ held_stays (workspace_of o.wdesc) (priority_of o.wdesc)
    (without_waiter o.wdesc (without_out l node.machine.control))))

-- of a source
pub source_lighter : (node : Node) (l : ℕ) (over rest : List ℕ) → node.role ≡ Source over rest → l < 4
    → length node.copied ≡ 4 → was_copied node l ≡ true → (role : Role)
    → suc (weight (marked l false (record node { role = role; machine = hidden (woken node.role l node.machine) })))
    ≡ weight node
source_lighter node l over rest is small four copied role =
    subst (λ (r : Role). suc (weight (marked l false (record node {
      role = role;
      machine = hidden (woken r l node.machine);
    }))) ≡ weight node) (sym is)
    (wake_lighter node role (woken (Source over rest) l node.machine) l small four copied
    (λ j. alike (λ (e : LinkEnd). e.noticed) node.machine.control.links l j _ refl) refl)

-- an interrupted process goes on
resumes : (m : Machine) (t : Suspended) → m.control.halted ≡ false → m.control.current ≡ None → m.control.high ≡ []
    → m.control.interrupted ≡ Some t
    → step m ≡ Ok (record { control = resumed t m.control; store = m.store }, ran.Dispatch)
unfolding step
resumes m t works idle none held = rw (works, idle, none, held) refl

pub resumption_lighter : (c c' : Configuration) (n : ℕ) (node : Node) (t : Suspended) → node_of c n ≡ Some node
    → node.machine.control.halted ≡ false → node.machine.control.current ≡ None → node.machine.control.high ≡ []
    → node.machine.control.interrupted ≡ Some t → IsLocal c n c' → weight_of c' < weight_of c
resumption_lighter c c' n node t here works idle none held l =
    put_lighter c c' n l.node (record l.node { machine = hidden l.machine }) l.here l.after
    (subst (λ (z : Node). suc (weight (record z { machine = hidden l.machine })) ≡ weight z) same
    (subst (λ (z : Machine). suc (weight (record node { machine = hidden z })) ≡ weight node) machine
    (omega (arith, ap (λ (o : Option Suspended). one_if (is_some o)) held))))
  where
    same : node ≡ l.node
    same = some_is (sym here ∙ l.here)

    machine : record { control = resumed t node.machine.control; store = node.machine.store } ≡ l.machine
    machine =
        ap (λ z. z.0) (ok_is (sym (resumes node.machine t works idle none held)
        ∙ ap (λ (z : Node). step z.machine) same ∙ l.steps))
      where
        ok_is : {A B : Type 0} {a b : A} → ◌≡◌ {A = Result A B} (Ok a) (Ok b) → a ≡ b
        ok_is e = cc
