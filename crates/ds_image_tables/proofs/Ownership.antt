-- Who owns what: items that are marked and counted, and tables of their users.
pub mod MarkedLists
pub mod Marking
pub mod NotedUsers
pub mod OwnedCounts
pub mod OwnedLists
pub mod Owning
pub mod OwningUsers
pub mod RowsOfUsers
