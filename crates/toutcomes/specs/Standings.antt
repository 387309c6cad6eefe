-- Explorations that are printed with where the net stands at each outcome, in place of its dump.
-- Source: own choice, a format of this program; where a net stands is printed as `where` prints it.
use Rattle.std.specs.Prelude.{ℕ, suc, ◌≡◌, List, [], ◌∷◌, ◌++◌, Option, Some, None, Ok, slice_get, take, length}
use Rattle.std.specs.Prelude.{unwrap_or}
use Rattle.std.specs.List.{AllZip}
use Rattle.std.specs.Io.KnownBytes.{Appends}
use Rattle.tplan.specs.declared.event.Event.{Event}
use Rattle.tplan.specs.declared.wiring.Wiring.{Wiring}
use Rattle.tnet.specs.Net.{NetState}
use Rattle.tnet.specs.Packets.{after_events}
use Rattle.tfiles.specs.Outputs.{IsCut}
use Rattle.twhere.specs.Standing.{where_text}
use Rattle.toutcomes.specs.declared.exploring.Explored.{Explored}
use Rattle.topening.specs.declared.fault.Fault.{Fault}
use Rattle.topening.specs.declared.fault.Fault.TheVariants as fault
use Rattle.tendings.specs.declared.telling.Telling.{Telling}
use Rattle.toutcomes.specs.Explores.{Explores, endless_text, explored_end, heading_text}
use Rattle.toutcomes.specs.Logged.{IsLogOf}
use Rattle.topening.specs.Openings.{opened_of}

-- ---- where a net stands

-- events lead a net to where it stands so
pub record StandsAfter (net : NetState) (events : List Event) (text : List ℕ) : Type 0 where
  pub left : NetState
  pub done : after_events events net ≡ Some left
  pub is : text ≡ where_text left

-- a log leads a net to where just this is told of it, and there it stands so
pub record StandsWhere (net : NetState) (t : Telling) (text : List ℕ) : Type 0 where
  pub events : List Event
  pub log : IsLogOf net t events
  pub is : text ≡ where_text log.left

-- where the net stands at an outcome, if a log of it was found
abbrev pub IsStanding : NetState → Telling → Option (List ℕ) → Type 0
IsStanding net t (Some text) = StandsWhere net t text
IsStanding net t None = Unit {0}

-- where the net stands at the outcome or freeze of a number, if a log was found
abbrev pub IsStandingAt : NetState → (outcomes : List Telling) → (number : ℕ) → Option (List ℕ) → Type 0
IsStandingAt net outcomes number standing =
    (t : Telling) → slice_get outcomes number ≡ Some t → IsStanding net t standing

-- where the net stands at each of the first outcomes, as many as there are standings
abbrev pub AreStandings : NetState → (outcomes : List Telling) → (standings : List (Option (List ℕ))) → Type 0
AreStandings net outcomes standings = AllZip (IsStanding net) (take (length standings) outcomes) standings

-- ---- what is printed

-- where the net stands at the outcome of a number; no text, where that is not told
abbrev pub standing_in : List (Option (List ℕ)) → (number : ℕ) → List ℕ
standing_in standings number = unwrap_or (unwrap_or (slice_get standings number) None) []

-- outcomes numbered from here, each with its heading and where the net stands, as far as that is told
abbrev pub standings_from : ℕ → (outcomes : List Telling) → (standings : List (Option (List ℕ))) → List ℕ
standings_from k (t ∷ ts) (s ∷ ss) = (heading_text k t ++ unwrap_or s []) ++ standings_from (suc k) ts ss
standings_from k (t ∷ ts) [] = (heading_text k t ++ []) ++ standings_from (suc k) ts []
standings_from k [] _ = []

-- all that is printed of an exploration with where the net stands
abbrev pub standings_text : List (Option (List ℕ)) → Explored → List ℕ
standings_text standings x = standings_from 1 x.outcomes standings ++ (endless_text x.endless ++ explored_end x)

-- the text of what an exploration of a net has found, with where the net stands at each outcome
pub record IsWhereText (net : NetState) (x : Explored) (text : List ℕ) : Type 0 where
  pub standings : List (Option (List ℕ))
  pub are : AreStandings net x.outcomes standings
  pub is : text ≡ standings_text standings x

-- the text of an exploration with where the net stands goes out
pub record WritesWhere {W : Type 0} (contents : W → Option (List ℕ)) (net : NetState) (x : Explored) (old new : W)
    : Type 0 where
  pub text : List ℕ
  pub is : IsWhereText net x text
  pub out : Appends (contents old) (contents new) text

-- the beginning of such a text goes out, of an exploration of the wiring with its images
pub record CutsWhere {W : Type 0} (contents : W → Option (List ℕ)) (w : Wiring) (files : List (List ℕ)) (old new : W)
    (written : ℕ) : Type 0 where
  pub net : NetState
  pub opened : opened_of w files ≡ Ok net
  pub x : Explored
  pub explores : Explores w files x
  pub text : List ℕ
  pub is : IsWhereText net x text
  pub out : IsCut (contents old) (contents new) text written

-- what has gone out where a fault is answered: nothing; or, where the output failed, the beginning of such a text
abbrev pub IsWhereLeft : {W : Type 0} → (W → Option (List ℕ)) → Wiring → List (List ℕ) → W → W → Fault → Type 0
IsWhereLeft contents w files old new (fault.Output f) = CutsWhere contents w files old new f.written
IsWhereLeft contents w files old new f = new ≡ old
