-- What holds of the changes of a step where its parts are done.
use Rattle.std.proofs.Common.{◌≡◌, Bool, true, false, true≢false, List, [], ◌∷◌, ◌++◌, pos, Some}
use Rattle.std.specs.Prelude.{is_some, if◌then◌else◌}
use Rattle.tagents.specs.Walks.{deed_of}
use Rattle.tprocesses.specs.Places.{Place, Population, HasRun, FlagChanged}
use Rattle.tprocesses.specs.Values.{Value}
use Rattle.tprocesses.specs.Changes.{Change, Add, Raise}
use Rattle.tprocesses.specs.Parts.{Reason, Part, gives, stopping, seeing, changing, telling, Doing, Changed, Deed, made}
use Rattle.tprocesses.specs.Parts.{walk_from, ◌>>=◌}
use Rattle.tprocesses.proofs.Safe.{altered}
use Rattle.tprocesses.proofs.Quiet.{IsPlain, Makes}

-- a change that lets no count of processes go down, and clears no flag that tells which priorities have run and whether
-- a flag was changed
abbrev pub IsTame : Place → Change → Type 0
IsTame (Population n) c = c ≡ Add (pos 1)
IsTame (HasRun n q) c = c ≡ Raise
IsTame (FlagChanged n) c = c ≡ Raise
IsTame _ c = Unit {0}

abbrev pub AllTame : List Changed → Type 0
AllTame [] = Unit {0}
AllTame (x ∷ xs) = IsTame x.place x.change × AllTame xs

pub tame_more : (cs : List Changed) (q : Place) (c : Change) → AllTame cs → IsTame q c
    → AllTame (cs ++ altered q c ∷ [])
tame_more [] q c h k = (k, tt)
tame_more (x ∷ cs) q c h k = (h.0, tame_more cs q c h.1 k)

pub plain_tame : (q : Place) (c : Change) → IsPlain q c → IsTame q c
plain_tame (Population n) c h = absurd h
plain_tame (HasRun n i) c h = h
plain_tame (FlagChanged n) c h = h
plain_tame _ c h = tt

-- what holds of the changes where a part is done, whatever it sees. Where it stops they are tame
abbrev pub Leaves : {A : Type 0} → Part A → List Changed → (List Changed → Type 0) → Type 0
Leaves (gives x) cs Q = Q cs
Leaves (stopping why) cs Q = AllTame cs
Leaves (seeing q next) cs Q = (v : Value) → Leaves (next v) cs Q
Leaves (changing q c next) cs Q = Leaves next (cs ++ altered q c ∷ []) Q
Leaves (telling m next) cs Q = Leaves next cs Q

-- where one is known of the changes before a part, the other is after it
pub record Leads {A : Type 0} (Q T : List Changed → Type 0) (part : Part A) : Type 0 where
  pub leads : (cs : List Changed) → Q cs → Leaves part cs T

bind : {A B : Type 0} (part : Part A) (f : A → Part B) (Q T : List Changed → Type 0) (cs : List Changed)
    → Leaves part cs Q → ((x : A) (ds : List Changed) → Q ds → Leaves (f x) ds T) → Leaves (part >>= f) cs T
bind (gives x) f Q T cs h k = k x cs h
bind (stopping why) f Q T cs h k = h
bind (seeing q next) f Q T cs h k = λ v. bind (next v) f Q T cs (h v) k
bind (changing q c next) f Q T cs h k = bind next f Q T (cs ++ altered q c ∷ []) h k
bind (telling m next) f Q T cs h k = bind next f Q T cs h k

-- one part and then another
pub andthen : {A B : Type 0} {Q S T : List Changed → Type 0} {part : Part A} {f : A → Part B} → Leads Q S part
    → ((x : A) → Leads S T (f x)) → Leads Q T (part >>= f)
andthen {Q = Q} {S} {T} {part} {f} h k = record {
  leads = λ cs holds. bind part f S T cs (h.leads cs holds) (λ x ds held. (k x).leads ds held);
}

pub nothing : {A : Type 0} {Q T : List Changed → Type 0} (x : A) → ((cs : List Changed) → Q cs → T cs)
    → Leads Q T (gives x)
nothing x to = record { leads = to }

pub stops : {A : Type 0} {Q T : List Changed → Type 0} (why : Reason) → ((cs : List Changed) → Q cs → AllTame cs)
    → Leads {A = A} Q T (stopping why)
stops why to = record { leads = to }

-- less may be known at the end
weaken : {A : Type 0} (part : Part A) (Q T : List Changed → Type 0) (cs : List Changed) → Leaves part cs Q
    → ((ds : List Changed) → Q ds → T ds) → Leaves part cs T
weaken (gives x) Q T cs h k = k cs h
weaken (stopping why) Q T cs h k = h
weaken (seeing q next) Q T cs h k = λ v. weaken (next v) Q T cs (h v) k
weaken (changing q c next) Q T cs h k = weaken next Q T (cs ++ altered q c ∷ []) h k
weaken (telling m next) Q T cs h k = weaken next Q T cs h k

pub lighter : {A : Type 0} {Q S T : List Changed → Type 0} {part : Part A} → ((cs : List Changed) → S cs → T cs)
    → Leads Q S part → Leads Q T part
lighter {S = S} {T} {part} to h = record { leads = λ cs holds. weaken part S T cs (h.leads cs holds) to }

-- a part that makes changes of a kind alone, of which none matters to what is known
stays : {A : Type 0} (F : Place → Change → Type 0) (Q : List Changed → Type 0) (part : Part A) (cs : List Changed)
    → ((q : Place) (c : Change) (ds : List Changed) → F q c → Q ds → Q (ds ++ altered q c ∷ []))
    → ((ds : List Changed) → Q ds → AllTame ds) → Makes F part → Q cs → Leaves part cs Q
stays F Q (gives x) cs to tame p h = h
stays F Q (stopping why) cs to tame p h = tame cs h
stays F Q (seeing q next) cs to tame p h = λ v. stays F Q (next v) cs to tame (p v) h
stays F Q (changing q c next) cs to tame p h =
    stays F Q next (cs ++ altered q c ∷ []) to tame p.1 (to q c cs p.0 h)
stays F Q (telling m next) cs to tame p h = stays F Q next cs to tame p h

pub makes : {A : Type 0} (F : Place → Change → Type 0) (Q : List Changed → Type 0) (part : Part A)
    → ((q : Place) (c : Change) (cs : List Changed) → F q c → Q cs → Q (cs ++ altered q c ∷ []))
    → ((cs : List Changed) → Q cs → AllTame cs) → Makes F part → Leads Q Q part
makes F Q part to tame p = record { leads = λ cs h. stays F Q part cs to tame p h }

pub sees : {Q : List Changed → Type 0} (q : Place) → Leads Q Q (seeing q gives)
sees q = record { leads = λ cs h v. h }

pub chooses : {A : Type 0} {Q T : List Changed → Type 0} {x y : Part A} (b : Bool) → Leads Q T x → Leads Q T y
    → Leads Q T (if b then x else y)
chooses true h k = h
chooses false h k = k

-- what holds of the deed at the end of the walk of a step
pub deed_left : (d : Deed) (step : Doing) (s : Place → Value) (Q : List Changed → Type 0)
    → Leaves step d.changes Q → is_some (deed_of (walk_from d step) s).stops ≡ false
    → Q (deed_of (walk_from d step) s).changes
deed_left d (gives x) s Q h none = h
deed_left d (stopping why) s Q h none = absurd (true≢false none)
deed_left d (seeing q next) s Q h none =
    deed_left d (next (made d.changes q (s q))) s Q (h (made d.changes q (s q))) none
deed_left d (changing q c next) s Q h none =
    deed_left (record d { changes = d.changes ++ altered q c ∷ [] }) next s Q h none
deed_left d (telling m next) s Q h none = deed_left (record d { message = Some m }) next s Q h none

-- that they are tame holds of each
pub deed_tame : (d : Deed) (step : Doing) (s : Place → Value) (Q : List Changed → Type 0)
    → Leaves step d.changes Q → ((cs : List Changed) → Q cs → AllTame cs)
    → AllTame (deed_of (walk_from d step) s).changes
deed_tame d (gives x) s Q h to = to d.changes h
deed_tame d (stopping why) s Q h to = h
deed_tame d (seeing q next) s Q h to =
    deed_tame d (next (made d.changes q (s q))) s Q (h (made d.changes q (s q))) to
deed_tame d (changing q c next) s Q h to =
    deed_tame (record d { changes = d.changes ++ altered q c ∷ [] }) next s Q h to
deed_tame d (telling m next) s Q h to = deed_tame (record d { message = Some m }) next s Q h to
