-- Calls on a node that look at one place, or change it.
use Rattle.std.proofs.Common.{◌≡◌, ℕ, sym, ap, ◌∙◌, subst, true, List, [], ◌∷◌, Result, Ok, inl, inr, ◌⊎◌, arith}
use Rattle.std.specs.Prelude.{All, Contains}
use Rattle.std.proofs.lemmas.List.Elements.{All-cons, All-weaker}
use Rattle.tagents.specs.WalkAccesses.{Looks, Changes}
use Rattle.tprocesses.specs.Places.{Place}
use Rattle.tprocesses.specs.Values.{Value}
use Rattle.tprocesses.specs.Changes.{Change, kind_of}
use Rattle.tprocesses.specs.Parts.{Part, Reason, done, see, change}
use Rattle.tcertify.specs.declared.lead.Lead.{Lead}
use Rattle.tcertify.specs.declared.node.Node.{Node}
use Rattle.tcertify.specs.declared.notes.Mode.{Mode}
use Rattle.tcertify.specs.declared.notes.Notes.{Notes}
use Rattle.tcertify.specs.Nodes.{HasLead, IsLed, NumbersNode, RunsAt, node_at, node_site}
use Rattle.tcertify.specs.Notes.{IsNoted, Keeps, Numbering, Tells, tells_of}
use Rattle.tcertify.specs.Running.{State, changed}
use Rattle.tcertify.specs.Seeing.{sights}
use Rattle.tcertify.specs.Walked.{Accessed, accesses, change_at, changes, look_at}
use Rattle.tcertify.proofs.Growing.{Stays, grows, lists_stay, numbers_before, stays_on}
use Rattle.tcertify.proofs.NodeRunning.{grows_on, keeps_all, keeps_on, led_still}

-- one access is noted
one_noted : (P : Accessed → Type 0) (x : Accessed) → P x → All P (x ∷ [])
one_noted P x h = All-cons P x [] h (λ k d below. absurd (omega arith))

module _ (a b : Node) (p : Place) (k : ℕ) (mode : Mode) (stays : Stays a b)
    (keeps : Keeps a.words.notes b.words.notes) (tells : Tells b.words.notes k mode)
    (at : (numbering : Numbering) → NumbersNode numbering b → numbering p ≡ k) where
  -- the place is changed
  pub changes_at : (c : Change) → tells_of mode p (Changes (kind_of c)) ≡ true
      → ((rest : State) → node_at b rest ≡ changed p c (node_at a rest)) → b.leads.items ≡ a.leads.items
      → RunsAt (change p c) a (Ok tt) b
  changes_at c of state leads =
      record {
        runs = λ rest. ap (λ (s : State). (Ok tt, s)) (sym (state rest));
        grows = grows a b stays;
        keeps = keeps;
        noted = λ numbering n rest lost. one_noted (IsNoted numbering b.words.notes.items.items) (change_at p c)
            (tells.noted lost numbering (change_at p c) (at numbering n) of);
        led = λ l there. inl (subst (λ (ls : List Lead). Contains ls l) leads there);
      }

  -- the place is looked at
  pub looks_at : (v : Value) → tells_of mode p Looks ≡ true
      → ((rest : State) → node_at b rest ≡ node_at a rest) → ((rest : State) → node_at a rest p ≡ v)
      → ((l : Lead) → Contains b.leads.items l
      → Contains a.leads.items l ⊎ IsLed b (record { place = p; value = v } ∷ []) [] l)
      → RunsAt (see p) a (Ok v) b
  looks_at v of state seen led =
      record {
        runs = λ rest. ap (λ (x : Value). (Ok x, node_at a rest)) (seen rest)
            ∙ ap (λ (s : State). (Ok v, s)) (sym (state rest));
        grows = grows a b stays;
        keeps = keeps;
        noted = λ numbering n rest lost. one_noted (IsNoted numbering b.words.notes.items.items) (look_at p)
            (tells.noted lost numbering (look_at p) (at numbering n) of);
        led = λ l there. elim (led l there) [
          | inl old ↦ inl old
          | inr so ↦ inr (λ rest. subst (λ (x : Value). IsLed b (record { place = p; value = x } ∷ []) [] l)
              (sym (seen rest)) so)
        ];
      }

-- a lead that was told leaves all places as they are, and what was noted is noted still
pub told_stays : (m b : Node) (l : Lead) → HasLead m l b → Stays m b
told_stays m b l told =
    lists_stay m b (ap node_site told.same) (ap (λ (n : Node). n.words.first_place) told.same)
    (ap (λ (n : Node). n.fixed_place) told.same) (ap (λ (n : Node). n.processes.items.items) told.same)
    (ap (λ (n : Node). n.channels.items.items) told.same) (ap (λ (n : Node). n.lives.items.items) told.same)

pub tells_still : (m b : Node) (l : Lead) (k : ℕ) (mode : Mode) → HasLead m l b → Tells m.words.notes k mode
    → Tells b.words.notes k mode
tells_still m b l k mode told tells =
    record {
      noted = λ lost numbering x placed telling.
          told.keeps.notes lost numbering x (tells.noted (told.keeps.lost lost) numbering x placed telling);
    }

-- a place is looked at, and what was seen leads to an agent
module _ (a m b : Node) (p : Place) (k : ℕ) (mode : Mode) (l : Lead) (told : HasLead m l b) where
  pub looks_and_leads : (v : Value) → Stays a m → ((rest : State) → node_at m rest ≡ node_at a rest)
      → m.leads.items ≡ a.leads.items → Keeps a.words.notes m.words.notes → Tells m.words.notes k mode
      → ((numbering : Numbering) → NumbersNode numbering m → numbering p ≡ k) → tells_of mode p Looks ≡ true
      → ((rest : State) → node_at a rest p ≡ v) → IsLed b (record { place = p; value = v } ∷ []) [] l
      → RunsAt (see p) a (Ok v) b
  looks_and_leads v stays state leads keeps tells at of seen shows =
      looks_at a b p k mode (stays_on a m b stays (told_stays m b l told))
      (keeps_on a.words.notes m.words.notes b.words.notes keeps told.keeps) (tells_still m b l k mode told tells)
      (λ numbering n. at numbering (numbers_before m b (told_stays m b l told) numbering n)) v of
      (λ rest. ap (λ (n : Node). node_at n rest) told.same ∙ state rest) seen
      (λ j there. elim (told.leads j there) [
        | inl old ↦ inl (subst (λ (ls : List Lead). Contains ls j) leads old)
        | inr e ↦ inr (subst (λ (i : Lead). IsLed b (record { place = p; value = v } ∷ []) [] i) e shows)
      ])

-- nothing is done but that the node may grow
pub grows_alone : (a b : Node) → Stays a b → ((rest : State) → node_at b rest ≡ node_at a rest)
    → b.words.notes ≡ a.words.notes → b.leads.items ≡ a.leads.items → RunsAt done a (Ok tt) b
grows_alone a b stays state notes leads =
    record {
      runs = λ rest. ap (λ (s : State). (Ok tt, s)) (sym (state rest));
      grows = grows a b stays;
      keeps = subst (λ (n : Notes). Keeps a.words.notes n) (sym notes) (keeps_all a.words.notes);
      noted = λ numbering n rest lost. (λ k d below. absurd (omega arith));
      led = λ l there. inl (subst (λ (ls : List Lead). Contains ls l) leads there);
    }

-- a call that tells of a lead in the end
pub with_lead : {A : Type 0} (part : Part A) (a m b : Node) (r : Result A Reason) (l : Lead) → RunsAt part a r m
    → HasLead m l b
    → ((rest : State) → IsLed b (sights part (node_at a rest)) (changes part (node_at a rest)) l) → RunsAt part a r b
with_lead part a m b r l first told shows =
    let stays = told_stays m b l told in
    record {
      runs = λ rest. first.runs rest ∙ ap (λ (n : Node). (r, node_at n rest)) (sym told.same);
      grows = grows_on a m b first.grows (grows m b stays);
      keeps = keeps_on a.words.notes m.words.notes b.words.notes first.keeps told.keeps;
      noted = λ numbering n rest lost.
          All-weaker (IsNoted numbering m.words.notes.items.items) (IsNoted numbering b.words.notes.items.items)
          (λ x. told.keeps.notes lost numbering x) (accesses part (node_at a rest))
          (first.noted numbering (numbers_before m b stays numbering n) rest (told.keeps.lost lost));
      led = λ j there. elim (told.leads j there) [
        | inl in_m ↦ elim (first.led j in_m) [
          | inl old ↦ inl old
          | inr so ↦ inr (λ rest. led_still m b (grows m b stays) (sights part (node_at a rest))
              (changes part (node_at a rest)) j (so rest))
        ]
        | inr e ↦ inr (λ rest. subst (λ (i : Lead). IsLed b (sights part (node_at a rest))
            (changes part (node_at a rest)) i) e (shows rest))
      ];
    }
