mod Stacks
mod Lines
mod Walks
mod Turned
mod Made
mod Partners
