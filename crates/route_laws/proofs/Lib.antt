mod TableLaws
mod OneWay
pub mod Entries
pub mod NoSummaries
pub mod Labels
pub mod Alone
pub mod Made
mod Parts
mod Ordered
mod Listed
mod ExternalOffers
mod OneOffer
mod TwoOffers
mod Square
mod TwoRouters
mod Externals
mod NetworkLabels
mod Transit
mod Uncounted
mod Summaries
mod Left
pub mod Nearer
mod Passed
pub mod Found
mod Longest
mod Arrived
mod Row
pub mod Outward
pub mod Fewer
mod Everywhere
mod Renumbered
mod Hops
mod Own
mod Members
mod Inside
mod Hop
mod Better
mod Delivered
mod ThreeRouters
mod Anew
mod Equal
mod ZeroCosts
mod Defaults
