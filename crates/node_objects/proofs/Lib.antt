mod Concerns
mod Indexes
mod Shared
mod UnderNames
