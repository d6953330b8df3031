mod OrderLemmas
mod SignLemmas
