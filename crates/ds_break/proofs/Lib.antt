mod Images
mod Indexes
