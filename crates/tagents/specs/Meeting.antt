-- A machine in which one agent's step leads to another's: a sender offers, a receiver asks, in either order; then a
-- channel copies, and the receiver goes on.
-- Source: own choice.
use Rattle.std.specs.Prelude.{ℕ, ◌==◌, ◌&&◌, Bool, true, false, [], ◌∷◌, Option, Some, None, if◌then◌else◌}
use Rattle.tagents.specs.Agents.{Agents}
use Rattle.tagents.specs.Frames.{Frame, changed}
use Rattle.tagents.specs.Certificates.{IsCertified}

pub data Party : Type 0 where
  Sender Receiver Channel : Party

pub data Deed : Type 0 where
  Offer Ask Copy Finish : Deed

-- what the sender and the receiver do, and the buffer
pub data Spot : Type 0 where
  AtSender AtReceiver Buffer : Spot

abbrev pub party_of : Deed → Party
party_of Offer = Sender
party_of Ask = Receiver
party_of Copy = Channel
party_of Finish = Receiver

abbrev pub same_party : Party → Party → Bool
same_party Sender Sender = true
same_party Receiver Receiver = true
same_party Channel Channel = true
same_party _ _ = false

-- 0 is ready, 1 waits, 2 was met, 3 is done
abbrev pub deeds : Frame Spot ℕ Deed
deeds = record { looks = looks; change = change }
  where
    looks : Deed → Spot → Bool
    looks Offer AtSender = true
    looks Ask AtReceiver = true
    looks Copy AtSender = true
    looks Copy AtReceiver = true
    looks Finish AtReceiver = true
    looks Finish Buffer = true
    looks _ _ = false

    change : Deed → Spot → ℕ → ℕ
    change Offer AtSender v = 1
    change Ask AtReceiver v = 1
    change Copy AtSender v = 2
    change Copy AtReceiver v = 2
    change Copy Buffer v = 7
    change Finish AtReceiver v = 3
    change _ _ v = v

abbrev pub next_deed : Party → (Spot → ℕ) → Option (Deed × (Spot → ℕ))
next_deed Sender s = if s AtSender == 0 then Some (Offer, changed deeds Offer s) else None
next_deed Receiver s =
    if s AtReceiver == 0 then Some (Ask, changed deeds Ask s)
    else if s AtReceiver == 2 then Some (Finish, changed deeds Finish s) else None
next_deed Channel s =
    if (s AtSender == 1) && (s AtReceiver == 1) then Some (Copy, changed deeds Copy s) else None

abbrev pub deeds_clash : Deed → Deed → Bool
deeds_clash Offer Ask = false
deeds_clash Ask Offer = false
deeds_clash Offer Finish = false
deeds_clash Finish Offer = false
deeds_clash _ _ = true

abbrev pub deed_leads : Deed → Deed → Bool
deed_leads Offer Copy = true
deed_leads Ask Copy = true
deed_leads Copy Finish = true
deed_leads _ _ = false

abbrev pub meeting : Agents (Spot → ℕ) Party Deed
meeting =
    record {
      next = next_deed;
      agent_of = party_of;
      same = same_party;
      clash = deeds_clash;
      leads = deed_leads;
      stops = λ e. false;
    }

abbrev pub before_meeting : Spot → ℕ
before_meeting p = 0

abbrev pub after_meeting : Spot → ℕ
after_meeting p =
    changed deeds Finish (changed deeds Copy (changed deeds Ask (changed deeds Offer before_meeting))) p

abbrev pub MeetingIsCertified : Type 0
MeetingIsCertified =
    IsCertified meeting before_meeting (Offer ∷ Ask ∷ Copy ∷ Finish ∷ []) after_meeting
