-- Where the changes of a step put processes, in their order, and which nodes have one more.
use Rattle.std.proofs.Common.{◌≡◌, ℕ, refl, sym, ap, subst, ◌∙◌, List, [], ◌∷◌, ◌++◌, Bool, true, false, pos}
use Rattle.std.proofs.lemmas.List.{append_assoc, append-nil}
use Rattle.tprocesses.specs.Places.{Place, Name, Standing, Life, Population}
use Rattle.tprocesses.specs.Values.{Stand, Ended, IsStand}
use Rattle.tprocesses.specs.Changes.{Change, Put, Add}
use Rattle.tprocesses.specs.Parts.{Reason, Part, gives, stopping, Changed, change}
use Rattle.tprocesses.specs.Machine.{Agent, Process}
use Rattle.tprocesses.proofs.Safe.{altered}
use Rattle.tprocesses.proofs.Quiet.{IsPlain, IsQuiet, quiet_is_plain, Quiet}
use Rattle.tprocesses.proofs.Plain.{Plain}
use Rattle.tprocesses.proofs.Leaving.{IsTame, AllTame, tame_more, plain_tame, Leads, nothing, stops, lighter, makes}

-- a process, and where it is put
pub record Stood : Type 0 where
  pub name : Name
  pub stand : Stand

abbrev pub stood_by : Place → Change → List Stood
stood_by (Standing x) (Put (IsStand stand)) = record { name = x; stand = stand } ∷ []
stood_by _ c = []

abbrev pub all_stood : List Changed → List Stood
all_stood [] = []
all_stood (x ∷ xs) = stood_by x.place x.change ++ all_stood xs

-- the nodes that have a process more
abbrev pub added_by : Place → List ℕ
added_by (Population n) = n ∷ []
added_by _ = []

abbrev pub all_added : List Changed → List ℕ
all_added [] = []
all_added (x ∷ xs) = added_by x.place ++ all_added xs

-- where a process stands it is put
abbrev pub IsPut : Place → Change → Type 0
IsPut (Standing x) (Put (IsStand stand)) = Unit {0}
IsPut (Standing x) c = ⊥
IsPut _ c = Unit {0}

abbrev pub AllPut : List Changed → Type 0
AllPut [] = Unit {0}
AllPut (x ∷ xs) = IsPut x.place x.change × AllPut xs

-- one change more
put_more : (cs : List Changed) (q : Place) (c : Change) → AllPut cs → IsPut q c → AllPut (cs ++ altered q c ∷ [])
put_more [] q c h k = (k, tt)
put_more (x ∷ cs) q c h k = (h.0, put_more cs q c h.1 k)

stood_more : (cs : List Changed) (q : Place) (c : Change)
    → all_stood (cs ++ altered q c ∷ []) ≡ all_stood cs ++ stood_by q c
stood_more [] q c = append-nil (stood_by q c)
stood_more (x ∷ cs) q c =
    ap (λ z. stood_by x.place x.change ++ z) (stood_more cs q c)
    ∙ sym (append_assoc (stood_by x.place x.change) (all_stood cs) (stood_by q c))

added_more : (cs : List Changed) (q : Place) (c : Change)
    → all_added (cs ++ altered q c ∷ []) ≡ all_added cs ++ added_by q
added_more [] q c = append-nil (added_by q)
added_more (x ∷ cs) q c =
    ap (λ z. added_by x.place ++ z) (added_more cs q c)
    ∙ sym (append_assoc (added_by x.place) (all_added cs) (added_by q))

-- a process has ended
abbrev pub is_ended : Stand → Bool
is_ended Ended = true
is_ended _ = false

abbrev pub NoneEnded : List Stood → Type 0
NoneEnded [] = Unit {0}
NoneEnded (x ∷ xs) = (is_ended x.stand ≡ false) × NoneEnded xs

none_more : (xs ys : List Stood) → NoneEnded xs → NoneEnded ys → NoneEnded (xs ++ ys)
none_more [] ys h k = k
none_more (x ∷ xs) ys h k = (h.0, none_more xs ys h.1 k)

-- plain and quiet changes
plain_put : (q : Place) (c : Change) → IsPlain q c → IsPut q c
plain_put (Standing x) (Put (IsStand stand)) h = tt
plain_put (Standing x) c h = absurd h
plain_put _ c h = tt

plain_stood : (q : Place) (c : Change) → IsPlain q c → NoneEnded (stood_by q c)
plain_stood (Standing x) (Put (IsStand Ended)) h = absurd h
plain_stood (Standing x) (Put (IsStand stand)) h = (refl, tt)
plain_stood _ c h = tt

plain_added : (q : Place) (c : Change) → IsPlain q c → added_by q ≡ []
plain_added (Population n) c h = absurd h
plain_added _ c h = refl

quiet_stood : (q : Place) (c : Change) → IsQuiet q c → stood_by q c ≡ []
quiet_stood (Standing x) c h = absurd h
quiet_stood _ c h = refl

-- what is known of where processes were put and of the nodes that have one more
pub record Holds (R : List Stood → List ℕ → Type 0) (cs : List Changed) : Type 0 where
  pub stood : List Stood
  pub added : List ℕ
  pub known : R stood added
  pub tame : AllTame cs
  pub put : AllPut cs
  pub is_stood : all_stood cs ≡ stood
  pub is_added : all_added cs ≡ added

-- nothing was; none has ended and no node has one more; one was put that has not ended
abbrev pub IsFresh : List Stood → List ℕ → Type 0
IsFresh stood added = (stood ≡ []) × (added ≡ [])

abbrev pub IsCalm : List Stood → List ℕ → Type 0
IsCalm stood added = NoneEnded stood × (added ≡ [])

pub record Comes (stood : List Stood) : Type 0 where
  pub one : Stood
  pub only : stood ≡ one ∷ []
  pub lives : is_ended one.stand ≡ false

abbrev pub HasCome : List Stood → List ℕ → Type 0
HasCome stood added = Comes stood

-- processes are the agent's own
abbrev pub AllOwn : Agent → List Stood → Type 0
AllOwn a [] = Unit {0}
AllOwn a (x ∷ xs) = (a ≡ Process x.name) × AllOwn a xs

-- one has come, and then perhaps the agent went on
pub record HasBegun (a : Agent) (stood : List Stood) : Type 0 where
  pub one : Stood
  pub others : List Stood
  pub all : stood ≡ one ∷ others
  pub live : NoneEnded stood
  pub own : AllOwn a others

-- the agent's own has ended
pub record HasEnded (a : Agent) (stood : List Stood) (added : List ℕ) : Type 0 where
  pub name : Name
  pub own : a ≡ Process name
  pub only : stood ≡ record { name = name; stand = Ended } ∷ []
  pub none : added ≡ []

-- what is so at the end of a step
pub data IsSettled (a : Agent) (stood : List Stood) (added : List ℕ) : Type 0 where
  Calm : IsCalm stood added → IsSettled a stood added
  Begun : HasBegun a stood → IsSettled a stood added
  Done : HasEnded a stood added → IsSettled a stood added

-- a part before which one is known, and after which the other is
abbrev pub Goes : {A : Type 0} (R T : List Stood → List ℕ → Type 0) → Part A → Type 0
Goes R T part = Leads (Holds R) (Holds T) part

is_tame : {R : List Stood → List ℕ → Type 0} (cs : List Changed) → Holds R cs → AllTame cs
is_tame cs h = h.tame

pub holds_more : {R T : List Stood → List ℕ → Type 0}
    → ((stood : List Stood) (added : List ℕ) → R stood added → T stood added)
    → (cs : List Changed) → Holds R cs → Holds T cs
holds_more to cs h = record {
  stood = h.stood;
  added = h.added;
  known = to h.stood h.added h.known;
  tame = h.tame;
  put = h.put;
  is_stood = h.is_stood;
  is_added = h.is_added;
}

pub keeps : {A : Type 0} {R T : List Stood → List ℕ → Type 0} (x : A)
    → ((stood : List Stood) (added : List ℕ) → R stood added → T stood added) → Goes R T (gives x)
keeps x to = nothing x (holds_more to)

pub stopped : {A : Type 0} {R T : List Stood → List ℕ → Type 0} (why : Reason) → Goes {A = A} R T (stopping why)
stopped why = stops why is_tame

-- a change that neither puts a process nor gives a node one more
unmoved : {R : List Stood → List ℕ → Type 0} (q : Place) (c : Change) (cs : List Changed) → IsTame q c → IsPut q c
    → stood_by q c ≡ [] → added_by q ≡ [] → Holds R cs → Holds R (cs ++ altered q c ∷ [])
unmoved q c cs tame put nowhere nothing_more h = record {
  stood = h.stood;
  added = h.added;
  known = h.known;
  tame = tame_more cs q c h.tame tame;
  put = put_more cs q c h.put put;
  is_stood = stood_more cs q c ∙ ap (λ z. all_stood cs ++ z) nowhere ∙ append-nil (all_stood cs) ∙ h.is_stood;
  is_added = added_more cs q c ∙ ap (λ z. all_added cs ++ z) nothing_more ∙ append-nil (all_added cs) ∙ h.is_added;
}

pub quietly : {A : Type 0} {R : List Stood → List ℕ → Type 0} (part : Part A) → Quiet part → Goes R R part
quietly {R = R} part h =
    makes IsQuiet (Holds R) part
    (λ q c cs quiet holds. let plain : IsPlain q c = quiet_is_plain q c quiet in
    unmoved q c cs (plain_tame q c plain) (plain_put q c plain) (quiet_stood q c quiet) (plain_added q c plain) holds)
    is_tame h

-- a workspace has a process more or less
pub lives_on : {R : List Stood → List ℕ → Type 0} (n w : ℕ) (c : Change) → Goes R R (change (Life n w) c)
lives_on n w c = record { leads = λ cs h. unmoved (Life n w) c cs tt tt refl refl h }

-- a plain part
calmly : {A : Type 0} (part : Part A) → Plain part → Goes IsCalm IsCalm part
calmly part h =
    makes IsPlain (Holds IsCalm) part
    (λ q c cs plain holds. record {
      stood = holds.stood ++ stood_by q c;
      added = holds.added;
      known = (
        none_more holds.stood (stood_by q c) holds.known.0 (plain_stood q c plain),
        holds.known.1,
      );
      tame = tame_more cs q c holds.tame (plain_tame q c plain);
      put = put_more cs q c holds.put (plain_put q c plain);
      is_stood = stood_more cs q c ∙ ap (λ z. z ++ stood_by q c) holds.is_stood;
      is_added =
          added_more cs q c ∙ ap (λ z. all_added cs ++ z) (plain_added q c plain) ∙ append-nil (all_added cs)
          ∙ holds.is_added;
    })
    is_tame h

pub still : {A : Type 0} {a : Agent} (part : Part A) → Plain part → Goes IsFresh (IsSettled a) part
still {a = a} part h =
    lighter (holds_more (λ stood added calm. Calm calm)) (record {
      leads = λ cs fresh. (calmly part h).leads cs (holds_more (λ stood added k. (
        subst NoneEnded (sym k.0) tt,
        k.1,
      )) cs fresh);
    })

-- a process is put
pub stands_there : {R T : List Stood → List ℕ → Type 0} (x : Name) (stand : Stand)
    → ((stood : List Stood) (added : List ℕ) → R stood added
    → T (stood ++ record { name = x; stand = stand } ∷ []) added)
    → Goes R T (change (Standing x) (Put (IsStand stand)))
stands_there x stand to = record {
  leads = λ cs h. let c : Change = Put (IsStand stand) in record {
    stood = h.stood ++ record { name = x; stand = stand } ∷ [];
    added = h.added;
    known = to h.stood h.added h.known;
    tame = tame_more cs (Standing x) c h.tame tt;
    put = put_more cs (Standing x) c h.put tt;
    is_stood = stood_more cs (Standing x) c ∙ ap (λ z. z ++ record { name = x; stand = stand } ∷ []) h.is_stood;
    is_added = added_more cs (Standing x) c ∙ append-nil (all_added cs) ∙ h.is_added;
  };
}

-- a node has a process more
pub adds : {R T : List Stood → List ℕ → Type 0} (n : ℕ)
    → ((stood : List Stood) (added : List ℕ) → R stood added → T stood (added ++ n ∷ []))
    → Goes R T (change (Population n) (Add (pos 1)))
adds n to = record {
  leads = λ cs h. let c : Change = Add (pos 1) in record {
    stood = h.stood;
    added = h.added ++ n ∷ [];
    known = to h.stood h.added h.known;
    tame = tame_more cs (Population n) c h.tame refl;
    put = put_more cs (Population n) c h.put tt;
    is_stood = stood_more cs (Population n) c ∙ append-nil (all_stood cs) ∙ h.is_stood;
    is_added = added_more cs (Population n) c ∙ ap (λ z. z ++ n ∷ []) h.is_added;
  };
}
