-- Proofs of what the process machine shows of the rendezvous machine.
-- what a memory holds once it is loaded
mod Loaded
-- what a process that is added leaves
mod Added
-- the processes of an image in their queues
mod Queued
-- a processor after some of its processes were added
mod Built
-- processes that are added one after another
mod Adding
-- the words of a node before the first step
mod OpenedWords
-- the processes of a node before the first step
mod OpenedNodes
-- the nodes of a plan before the first step are shown
mod OpeningShown
-- the sources and sinks of a plan before the first step
mod OpenedScripts
-- what a word that is free is not claimed for
mod Unclaimed
-- a word whose bytes are known
mod Reading
-- parts of steps that go through
mod After
-- spans of several words
mod Spans
-- memories cell by cell
mod Cells
-- touches and writes
mod Touched
mod Written
mod Writing
-- stores beside states
mod Stored
-- actions
mod Performed
mod Decoded
mod Needed
mod Ordered
mod Effected
mod Executed
mod Finished
-- who has enabled the inputs of links
mod InputChannels
mod Completed
mod Staying
mod Frames
mod Counted
mod Own
-- who sends where a byte was noticed
mod NoticedOffers
mod Nets
mod Running
mod Stepped
mod Saving
mod Softened
mod Jumps
mod Others
mod Yields
mod Yielding
mod YieldWords
mod YieldShown
mod Dispatched
mod TakenBack
mod Resumed
mod Freed
mod Dispatching
mod DispatchShown
mod Scheduled
mod Leaving
mod Stopping
mod Stops
-- processes that end together, and their successor
mod Coming
mod Arriving
mod Ends
mod Ended
mod Succeeding
mod Steady
mod Begins
-- operations that begin a process
mod Joined
mod Linking
mod BegunWords
mod BegunShown
mod Beginnings
-- own steps that break no rule
mod Freezing
-- processes of both priorities
mod Resumptions
mod Interruptions
-- what only grows
mod Grown
mod SteadySteps
mod SteadyOpening
mod SteadyRuns
-- a process that has enabled a link
mod SetLinks
mod LinkEnabler
mod NoticedLinks
mod ReadiedWord
mod ReadiedChoices
mod NoticedNode
mod NoticeWakes
mod FiredShown
mod QuietNotices
mod ToldNotices
mod Notices
mod WireEnds
mod SourceWakes
-- nets at rest
mod Resting
mod RestAwaits
mod RestLinks
mod Certified
-- how many live
mod Fewest
-- messages on internal channels
mod AtOperation
mod HalfTaken
mod Asked
mod Claimed
mod Reasons
mod Taken
mod SetUnknown
mod TakenWords
mod FirstWords
mod Renamed
mod HalfShown
mod FirstShown
mod OfferRuns
mod Enabler
mod OfferWords
mod OfferChoices
mod OfferShown
mod ChosenShown
mod LetGo
mod LetGoShown
mod EnabledMessages
mod FirstHalves
mod Meeting
mod Exchanged
mod Partner
mod MeetingWords
mod Released
mod MeetingShown
mod Meetings
-- a process that waits is queued
mod Rejoined
mod QueueLinks
mod Receives
mod Waiting
mod Woken
mod ChannelsKept
-- alternatives
mod Choices
mod ChoiceChanged
mod ChoiceShown
mod ChoicePlain
mod AltSeen
mod OwnChoice
mod SkipsSeen
mod Selecting
mod DissSeen
mod LinkPort
mod OwnLink
mod EnbcLink
mod Enabling
mod DiscLink
mod Disabling
mod FiringWires
mod AltwtFires
mod AltwtChannels
mod AwaitedLinks
mod AwaitingChoices
mod AltendSeen
mod ChannelFound
mod Ported
mod PortChanged
mod DiscSeen
mod DiscLaw
mod EnbcSeen
mod EnbcLaw
mod AwaitedHalves
mod AltwtSteps
mod AltwtGoes
mod AltwtMeets
mod AwaitingWords
mod AwaitingShown
mod AltwtSeen
-- messages on links
mod Among
mod EndRoles
mod SavedThen
mod Missing
mod Wakes
mod Sending
mod Silent
mod Receiving
mod NetScripts
mod SourceSends
mod SinkReceives
-- who waits where a wire ends
mod WireAsks
-- what was noticed when a message goes over
mod CopyNotices
mod Copies
mod Mismatches
-- all runs
mod Due
mod Reached
mod DueNext
mod Offering
mod DueWires
mod Weights
mod Handed
mod Carrying
mod NodesCounted
mod ScriptsRest
mod OwnInstructions
mod OwnSteps
mod AllSteps
pub mod AllRuns
-- operations on links
mod LinkRuns
mod Taking
mod Asking
mod LinkTaken
mod TakenShown
mod LinkOperations
pub mod PacketNets
