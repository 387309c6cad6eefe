-- What holds of each change of a part, whatever the part sees; and parts that only look.
use Rattle.std.proofs.Common.{ℕ, zero, suc, Bool, true, false, List, [], ◌∷◌, ◌++◌, Option, Some, None}
use Rattle.std.specs.Prelude.{◌==◌, ◌||◌, not, if◌then◌else◌}
use Rattle.tword.specs.declared.breaks.Break.{Break}
use Rattle.tword.specs.declared.span.Span.{Span}
use Rattle.tword.specs.Stores.{Store}
use Rattle.tword.specs.Touches.{Mode, Reads, Writes, place_break, word_place_break}
use Rattle.tproc.specs.declared.channels.Side.TheVariants.{Output}
use Rattle.tproc.specs.Alternatives.{none_selected}
use Rattle.tproc.specs.LinkChannels.{is_link}
use Rattle.tprocesses.specs.Places.{Place, Name, WordAt, Sending, Half, Error, HaltOnError, same_name}
use Rattle.tprocesses.specs.Values.{Value, Use, Free, Saved, Receiving, Engaged, Choosing, Awaiting, Last, Spoilt}
use Rattle.tprocesses.specs.Values.{Choice, Context, Stand, Chooses, Holder, Nobody, TakenBy, EnabledBy, AwaitedBy}
use Rattle.tprocesses.specs.Values.{word_in, amount_in, half_in}
use Rattle.tprocesses.specs.Changes.{Change}
use Rattle.tprocesses.specs.Parts.{Reason, Part, gives, stopping, seeing, changing, telling, Changed, done, see}
use Rattle.tprocesses.specs.Parts.{change, require, unless, ◌>>=◌}
use Rattle.tprocesses.specs.Touching.{Site, word_number, word_count, is_zero, free_cells, same_use, word_for, words_for}
use Rattle.tprocesses.specs.Touching.{unsent, settled, touch_word, touch_words, touch, touch_word_at}
use Rattle.tprocesses.specs.Standing.{known}
use Rattle.tprocesses.specs.Choosing.{choice_of, under_way, state_address, is_taken, readiness, is_first, waiting}
use Rattle.tprocesses.specs.Choosing.{requires_silence, requires_no_other}
use Rattle.tprocesses.specs.Instructions.{flags_before}

-- nothing is said of an answer
abbrev pub Any : {A : Type 0} → A → Type 0
Any x = Unit {0}

-- P holds of each change of a part, and Q of its answer
abbrev pub EachChange : (Changed → Type 0) → {A : Type 0} → (A → Type 0) → Part A → Type 0
EachChange P Q (gives x) = Q x
EachChange P Q (stopping why) = Unit {0}
EachChange P Q (seeing q next) = (v : Value) → EachChange P Q (next v)
EachChange P Q (changing q c next) = P (record { place = q; change = c }) × EachChange P Q next
EachChange P Q (telling m next) = EachChange P Q next

module _ (P : Changed → Type 0) where
  pub record Each {A : Type 0} (Q : A → Type 0) (part : Part A) : Type 0 where
    pub each : EachChange P Q part

  bind : {A B : Type 0} (Q : A → Type 0) (R : B → Type 0) (part : Part A) (f : A → Part B) → EachChange P Q part
      → ((x : A) → Q x → EachChange P R (f x)) → EachChange P R (part >>= f)
  bind Q R (gives x) f h k = k x h
  bind Q R (stopping why) f h k = tt
  bind Q R (seeing q next) f h k = λ v. bind Q R (next v) f (h v) k
  bind Q R (changing q c next) f h k = (h.0, bind Q R next f h.1 k)
  bind Q R (telling m next) f h k = bind Q R next f h k

  -- one part and then another, for which something is known of the answer
  pub andwith : {A B : Type 0} {Q : A → Type 0} {R : B → Type 0} {part : Part A} {f : A → Part B} → Each Q part
      → ((x : A) → Q x → Each R (f x)) → Each R (part >>= f)
  andwith {Q = Q} {R} {part} {f} h k = record { each = bind Q R part f h.each (λ x q. (k x q).each) }

  pub andthen : {A B : Type 0} {R : B → Type 0} {part : Part A} {f : A → Part B} → Each Any part
      → ((x : A) → Each R (f x)) → Each R (part >>= f)
  andthen {R = R} {part} {f} h k = record { each = bind Any R part f h.each (λ x q. (k x).each) }

  pub nothing : {A : Type 0} (x : A) → Each Any (gives x)
  nothing x = record { each = tt }

  pub stops : {A : Type 0} {Q : A → Type 0} (why : Reason) → Each {A = A} Q (stopping why)
  stops why = record { each = tt }

  pub sees : (q : Place) → Each Any (see q)
  sees q = record { each = λ v. tt }

  pub changes : (q : Place) (c : Change) → P (record { place = q; change = c }) → Each Any (change q c)
  changes q c h = record { each = (h, tt) }

  pub tells : (m : Store) → Each Any (telling m done)
  tells m = record { each = tt }

  pub requires : (b : Bool) (why : Reason) → Each Any (require b why)
  requires true why = nothing tt
  requires false why = stops why

  pub unless_each : (b : Option Break) → Each Any (unless b)
  unless_each None = nothing tt
  unless_each (Some b) = stops _

  pub chooses : {A : Type 0} {Q : A → Type 0} {x y : Part A} (b : Bool) → Each Q x → Each Q y
      → Each Q (if b then x else y)
  chooses true h k = h
  chooses false h k = k

  -- parts that only look
  pub unsent_each : (s : Site) (k : ℕ) → Each Any (unsent s k)
  unsent_each s k =
      andthen (sees (Sending s.number k)) (λ x. chooses (is_zero (amount_in x)) (nothing tt) (stops _))

  settled_each : (s : Site) (mode : Mode) (k : ℕ) → Each Any (settled s mode k)
  settled_each s Reads k = nothing tt
  settled_each s Writes k = unsent_each s k

  free_each : (u : Use) (cells : Store) → Each Any (free_cells u cells)
  free_each Free cells = nothing cells
  free_each Saved cells = stops _
  free_each Receiving cells = stops _
  free_each Engaged cells = stops _
  free_each Choosing cells = stops _
  free_each Awaiting cells = stops _
  free_each (Last r) cells = stops _
  free_each Spoilt cells = stops _

  touch_word_each : (s : Site) (mode : Mode) (k : ℕ) → Each Any (touch_word s mode k)
  touch_word_each s mode k =
      andthen (sees (WordAt s.number k))
      (λ x. andthen (free_each (word_in x).used (word_in x).cells)
      (λ cells. andthen (settled_each s mode k) (λ y. nothing cells)))

  touch_words_each : (s : Site) (mode : Mode) (k count : ℕ) → Each Any (touch_words s mode k count)
  touch_words_each s mode k zero = nothing []
  touch_words_each s mode k (suc count) =
      andthen (touch_word_each s mode k)
      (λ cells. andthen (touch_words_each s mode (suc k) count) (λ rest. nothing (cells ++ rest)))

  pub touch_each : (s : Site) (mode : Mode) (span : Span) → Each Any (touch s mode span)
  touch_each s mode span =
      andthen (unless_each (place_break s.size span))
      (λ x. touch_words_each s mode (word_number span.start) (word_count span))

  pub touch_word_at_each : (s : Site) (mode : Mode) (address : ℕ) → Each Any (touch_word_at s mode address)
  touch_word_at_each s mode address =
      andthen (unless_each (word_place_break s.size address)) (λ x. touch_word_each s mode (word_number address))

  pub word_for_each : (s : Site) (u : Use) (k : ℕ) → Each Any (word_for s u k)
  word_for_each s u k =
      andthen (sees (WordAt s.number k))
      (λ x. andthen (requires (same_use (word_in x).used u) _) (λ y. nothing (word_in x).cells))

  pub words_for_each : (s : Site) (u : Use) (k count : ℕ) → Each Any (words_for s u k count)
  words_for_each s u k zero = nothing []
  words_for_each s u k (suc count) =
      andthen (word_for_each s u k)
      (λ cells. andthen (words_for_each s u (suc k) count) (λ rest. nothing (cells ++ rest)))

  pub known_each : (v : Option ℕ) → Each Any (known v)
  known_each (Some v) = nothing v
  known_each None = stops _

  pub flags_before_each : (s : Site) (b : Bool) → Each Any (flags_before s b)
  flags_before_each s true =
      andthen (sees (Error s.number)) (λ error. andthen (sees (HaltOnError s.number)) (λ halting. nothing _))
  flags_before_each s false = nothing _

  -- alternatives
  pub choice_of_each : (choice : Option Choice) → Each Any (choice_of choice)
  choice_of_each (Some choice) = nothing choice
  choice_of_each None = stops _

  pub under_way_each : (s : Site) (c : Context) → Each Any (under_way s c)
  under_way_each s c =
      andthen (choice_of_each c.choice)
      (λ choice. andthen (unless_each (word_place_break s.size (state_address c)))
      (λ x. andthen (word_for_each s Choosing (word_number (state_address c)))
      (λ cells. andthen (unsent_each s (word_number (state_address c))) (λ y. nothing choice))))

  pub readiness_each : (x : Name) (sent : Bool) (h : Holder) → Each Any (readiness x sent h)
  readiness_each x sent (EnabledBy y) = andthen (requires (same_name y x) _) (λ z. nothing sent)
  readiness_each x sent (AwaitedBy y) =
      andthen (requires (same_name y x) _) (λ z. andthen (requires (not sent) _) (λ u. nothing false))
  readiness_each x sent Nobody = stops _
  readiness_each x sent (TakenBy request) = stops _

  pub is_first_each : (ready : Bool) (selected : Option ℕ) → Each Any (is_first ready selected)
  is_first_each true selected = andthen (known_each selected) (λ v. nothing (v == none_selected))
  is_first_each false selected = nothing false

  pub waiting_each : (stand : Stand) → Each Any (waiting stand)
  waiting_each (Chooses c) = nothing c
  waiting_each _ = stops _

  requires_silence_each : (s : Site) (channel : ℕ) → Each Any (requires_silence s channel)
  requires_silence_each s channel =
      andthen (sees (Half s.number channel Output)) (λ output. requires (not (is_taken (half_in output))) _)

  pub requires_no_other_each : (s : Site) (channel : ℕ) (ports : List ℕ)
      → Each Any (requires_no_other s channel ports)
  requires_no_other_each s channel [] = nothing tt
  requires_no_other_each s channel (d ∷ rest) =
      andthen (chooses ((d == channel) || is_link d) (nothing tt) (requires_silence_each s d))
      (λ x. requires_no_other_each s channel rest)
