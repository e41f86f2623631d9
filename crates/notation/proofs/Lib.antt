mod Calls
mod Calm
mod Carried
mod Made
mod Points
mod Records
mod RoundTrip
mod Rows
