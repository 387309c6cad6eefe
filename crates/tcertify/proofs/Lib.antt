-- Parts of steps that are run.
pub mod Running
-- Accesses that are noted.
pub mod Noting
-- Words as places.
pub mod Places
-- Words that are set.
pub mod Setting
-- Actions that are performed.
pub mod Actions
-- Steps told as runs.
pub mod Walking
-- Bytes that are touched.
pub mod Bytes
-- Bytes that are fetched.
pub mod Fetching
-- Bytes of code.
pub mod Chains
-- Instructions that touch no memory.
pub mod Plain
-- `call`.
pub mod Calls
-- Bytes that are written.
pub mod ByteWrites
-- Saved words that are freed.
pub mod Unsaving
-- `lend`.
pub mod Loops
-- Changes without a look.
pub mod Blind
-- Local instructions.
pub mod Locals
-- Memories in which nothing was loaded.
pub mod Fresh
-- Calls on a node.
pub mod NodeRunning
-- Lists that grow, and nodes.
pub mod Keeping
pub mod Growing
-- Whether two places are the same.
pub mod Telling
-- States that change, and calls that look or change.
pub mod BoardChanges
pub mod NodeChanging
-- Words of a node.
pub mod NodeWords
-- Calls on a node that follow others.
pub mod Following
-- Processes that go on.
pub mod Going
-- Operations of the scheduler.
pub mod Scheduling
pub mod Operations
-- Flags of a node.
pub mod NodeFlags
-- Things that are found; processes of a node.
pub mod Found
pub mod Indexing
pub mod NodeStands
pub mod NodePorts
-- Processes that wake, come and end.
pub mod NodeWaking
-- Workspaces of a node.
pub mod NodeLives
-- Names of processes.
pub mod Naming
-- Lists of which some items are replaced.
pub mod Splices
-- Bytes of words in a row.
pub mod WordBytes
-- Bytes that are set.
pub mod Written
-- Words in a row.
pub mod Rows
-- Words in a row that are put.
pub mod Putting
-- Spans that are put.
pub mod SpanPuts
-- Words of spans that are marked.
pub mod Marking
-- Spans that are copied.
pub mod Copying
-- Outputs of spans that are counted.
pub mod Counting
-- Names of processes.
pub mod NodeJoining
pub mod NodeComing
-- Channels and links of a node.
pub mod NodeChannels
-- Notes that tell of more.
pub mod LastNotes
-- Instructions up to what follows them.
pub mod Instructing
pub mod Completing
pub mod NodeHalves
-- Counts of a node that fall, and outputs that are over.
pub mod NodeCounts
pub mod NodeOutputs
-- Nodes before the first step.
pub mod OpenedWords
pub mod NodeOpening
-- Whether a process comes before the first step, by the workspaces of those before it.
pub mod OwnWorkspaces
-- Messages on internal channels, and alternatives.
pub mod Choices
pub mod Alternatives
pub mod EachPort
pub mod Messages
-- Messages on links.
pub mod LinkOffers
pub mod LinkPassing
-- Successors that go on.
pub mod Successors
-- Sources and sinks.
pub mod OneSpot
pub mod EndMessages
-- Alternatives over links.
pub mod LinkChoices
-- The commonest instructions.
pub mod Leaving
pub mod AtOnce
pub mod NotedWords
pub mod QuietSteps
