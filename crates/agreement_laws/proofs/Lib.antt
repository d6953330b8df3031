mod Ranks
mod Lists
mod Steps
mod AtInterface
mod Ages
mod Accepting
mod Settling
mod Verdicts
mod Cases
mod Databases
mod Ending
mod Describing
mod Parts
mod Sent
mod Walk
mod Done
mod Runs
pub mod Having
mod Climbing
mod Sayings
mod Said
mod SaidWalk
mod Names
mod Letters
mod Remembering
mod Since
mod Agreeing
mod WorkedRanks
mod WorkedCopies
mod WorkedExchanges
mod WorkedNeighbors
mod Absent
mod Holding
mod Asking
mod Requesting
mod RequestParts
mod RequestWalk
mod TakenIn
mod WorkedRequests
mod ExchangeSteps
mod Moves
mod Numbers
mod AnswerSteps
mod AnswerParts
mod AnswerWalk
mod Conversing
mod AnswerHistories
mod BothDone
mod Latest
mod Taking
mod Described
mod WorkedAnswers
mod HistoryStart
mod HistoryPackets
mod HistoryTicks
mod HistoryTurns
mod HistoryLeft
mod HistoryRight
mod WorkedHistory
pub mod WorkedLinks
pub mod WorkedEnds
pub mod WorkedUpdates
pub mod ConversationsWorkedAnswers
pub mod Worked
pub mod WorkedAged
pub mod WorkedOwn
pub mod WorkedFlush
pub mod WorkedUnannounced
pub mod WorkedTicks
pub mod WorkedAdjacency
pub mod WorkedExchange
pub mod WorkedRun
pub mod WorkedHello
pub mod HellosDiscarded
pub mod WorkedMetrics
pub mod TableTests
pub mod CarriedOut
pub mod TakenOff
pub mod RequestsMet
pub mod SentInOrder
